-- What a place gets by one event, by what the cell answers to it and how the place stands afterwards.
use Rattle.std.specs.Prelude.{ℕ, Bool, true, false, if◌then◌else◌, not, ◌&&◌, ◌==◌, nat_lt}
use Rattle.std.specs.Prelude.{Some, None, Ok, Err, Option, Result}
use Rattle.std.specs.Prelude.{pos}
use Rattle.std.specs.Int.{int_max, int_min}
use Rattle.answer.specs.declared.refusal.Refusal.{Refusal}
use Rattle.answer.specs.declared.turn.Answer.{Answer}
use Rattle.answer.specs.declared.turn.Answer.TheVariants.{Done, Turn as Turned}
use Rattle.answer.specs.declared.turn.Sent.{Sent}
use Rattle.answer.specs.declared.turn.Turn.{Turn}
use Rattle.cell.specs.declared.questions.Standing.{Standing}
use Rattle.record.specs.Layout.{Contents}
use Rattle.record.specs.declared.letter.Letter.{Letter}
use Rattle.record.specs.declared.letter.Letter.TheVariants.{O, C, A, G, B, T}
use Rattle.summary.specs.Counting.{plus}
use Rattle.summary.specs.declared.got.Got.{Got}

-- a place that was never open: it has no rate
abbrev pub nothing : Got
nothing = record {
  rate = 0;
  price = 0;
  own = 0;
  borrowed = 0;
  lost = 0;
  refused = 0;
  highest = pos 0;
  lowest = pos 0;
}

-- a place that was open has the rate of its last session, closed or not, and a rate is never 0
abbrev pub was_open : Got → Bool
was_open g = not (g.rate == 0)

abbrev pub with_rate : Standing → Got → Got
with_rate s g = record g { rate = s.rate; price = s.price }

abbrev pub with_refused : Got → Got
with_refused g = record g { refused = plus g.refused 1 }

abbrev pub with_own : ℕ → Got → Got
with_own bytes g = record g { own = plus g.own bytes }

abbrev pub with_borrowed : ℕ → Got → Got
with_borrowed bytes g = record g { borrowed = plus g.borrowed bytes }

-- the bytes of a turn go to who sent them: its own where it was the chosen one, and else borrowed
abbrev pub with_sent : ℕ → Turn → Option Sent → Got → Got
with_sent place t None g = g
with_sent place t (Some s) g =
    if s.sender == place
    then (if t.chosen == place then with_own t.length g else with_borrowed t.length g)
    else g

-- a turn is lost to a fade: the chosen has a frame, but its channel is bad, so that another sent or
-- nobody. (A turn changes no channel, and takes no frame of who does not send.)
abbrev pub faded : ℕ → Turn → Standing → Bool
faded place t s = t.chosen == place && (not s.good && nat_lt 0 s.waiting)

abbrev pub with_lost : Bool → Got → Got
with_lost lost g = if lost then record g { lost = plus g.lost 1 } else g

abbrev pub with_lag : Standing → Got → Got
with_lag s g = record g { highest = int_max g.highest s.lag; lowest = int_min g.lowest s.lag }

abbrev pub by_turn : ℕ → Turn → Standing → Got → Got
by_turn place t s g = with_lag s (with_lost (faded place t s) (with_sent place t t.sent g))

abbrev pub by_letter : Letter → ℕ → Contents → Result Answer Refusal → Standing → Got → Got
by_letter O place c (Ok a) s g = if c.place == place then with_rate s g else g
by_letter T place c (Ok (Turned t)) s g = by_turn place t s g
by_letter _ place c r s g = g

-- a frame that was refused counts whether the place is open or not; all else happens to open ones
abbrev pub refused_at : Letter → ℕ → Contents → Result Answer Refusal → Got → Got
refused_at A place c (Err why) g = if c.place == place then with_refused g else g
refused_at _ place c r g = g

abbrev pub got_after : ℕ → Contents → Result Answer Refusal → Result Standing Refusal → Got → Got
got_after place c r (Ok s) g = by_letter c.letter place c r s (refused_at c.letter place c r g)
got_after place c r (Err why) g = refused_at c.letter place c r g
