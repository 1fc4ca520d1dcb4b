-- A line that says an event is read as it, and no other line is.
use Rattle.std.proofs.Common.{◌≡◌, ℕ, ◌^◌, ◌<◌, Bool, true, false, cond, List, [], ◌∷◌, ◌++◌, length, Option, Some, None, Ok, Err, Result, ◌⊎◌, inl, inr, ⊎_elim, codes, decimal, refl, sym, ap, subst, ◌∙◌, arith}
use Rattle.std.proofs.lemmas.Bool.{ne_eqb}
use Rattle.std.proofs.lemmas.Fmt.{decimal_is_IsNumeral, decimal_nonempty}
use Rattle.std.proofs.lemmas.Str.Parse.{digit_from_value}
use Rattle.std.specs.Char.{is_ascii_digit}
use Rattle.std.specs.Prelude.{IfOk, IfSome}
use Rattle.std.specs.Result.{result_map_both}
use Rattle.std.specs.Str.Parse.{IsNumeral}
use Rattle.record.specs.declared.call.Call.{Call}
use Rattle.record.specs.declared.call.Call.TheVariants.{Open, Close, Arrive, Good, Bad, Turn}
use Rattle.notation.specs.declared.misread.Misread.{Misread}
use Rattle.notation.specs.declared.noted.NotedCall.{NotedCall}
use Rattle.notation.specs.Calls.{shortened, worded}
use Rattle.notation.specs.Front.{after, number_below}
use Rattle.notation.specs.Reading.{bare, bracketed, event_in, given, in_short, in_words, is_comment, noted, reading, with_note}
use Rattle.notation.specs.Short.{short_words}
use Rattle.notation.specs.Texts.{Fits, IsRecordable, IsTextOf, Says}
use Rattle.notation.specs.Words.{call_words, note_words}
use Rattle.notation.proofs.Fronts.{after-append, after_takes, number_again, number_takes, plain_number_none}
use Rattle.notation.proofs.Forms.{short_not_words, shortened_again, shortened_takes, worded_again, worded_takes}
use Rattle.notation.proofs.Notes.{bracketed_again, bracketed_takes, given_again, given_takes, note_stops}

-- ---- a line without the number of its record

no_number : (limit b : ℕ) (bs : List ℕ) → is_ascii_digit b ≡ false → number_below limit (b ∷ bs) ≡ None
unfolding number_below
no_number limit b bs e =
    let none = plain_number_none [] (λ n lt is. let some = decimal_nonempty n lt in let zero : length (decimal n) ≡ 0 = ap length is in omega arith) in
    rw (e, ← none) refl

bare_same : (line : List ℕ) → number_below (2 ^ 64) line ≡ None → bare line ≡ line
unfolding bare
bare_same line e = rw e refl

bare_again : (n : ℕ) (text : List ℕ) → n < 2 ^ 64 → bare (decimal n ++ (codes ": " ++ text)) ≡ text
unfolding bare
bare_again n text lt = rw (number_again (2 ^ 64) n (codes ": " ++ text) lt lt refl, after-append (codes ": ") text) refl

-- a line is itself without the number, or has one
Bares : List ℕ → Type 0
Bares line = (bare line ≡ line) ⊎ ((n : ℕ) × (n < 2 ^ 64) × (line ≡ decimal n ++ (codes ": " ++ bare line)))

bares_after : (line : List ℕ) (n : ℕ) (rest : List ℕ) (o : Option (List ℕ)) → number_below (2 ^ 64) line ≡ Some (n, rest) → after (codes ": ") rest ≡ o → Bares line
unfolding bare Bares
bares_after line n rest None e f = inl (rw (e, f) refl)
bares_after line n rest (Some text) e f =
    let number = number_takes (2 ^ 64) n line rest e in
    let is : bare line ≡ text = rw (e, f) refl in
    inr (n, number.1, number.0 ∙ ap (λ (t : List ℕ). decimal n ++ t) (after_takes (codes ": ") rest text f ∙ ap (λ (t : List ℕ). codes ": " ++ t) (sym is)))

bares_at : (line : List ℕ) (o : Option (ℕ × List ℕ)) → number_below (2 ^ 64) line ≡ o → Bares line
unfolding bare Bares
bares_at line None e = inl (rw e refl)
bares_at line (Some q) e = bares_after line q.0 q.1 (after (codes ": ") q.1) e refl

-- ---- a text of an event

-- is no comment, and has no number before it
Plain : List ℕ → Type 0
Plain text = (is_comment text ≡ false) × (bare text ≡ text)

plain_at : (b : ℕ) (bs : List ℕ) → is_ascii_digit b ≡ false → is_comment (b ∷ bs) ≡ false → Plain (b ∷ bs)
unfolding Plain
plain_at b bs digit comment = (comment, bare_same (b ∷ bs) (no_number (2 ^ 64) b bs digit))

words_plain : (call : Call) (rest : List ℕ) → Plain (call_words call ++ rest)
words_plain (Open p r) rest = plain_at _ _ refl refl
words_plain (Close p) rest = plain_at _ _ refl refl
words_plain (Arrive p n t) rest = plain_at _ _ refl refl
words_plain (Good p) rest = plain_at _ _ refl refl
words_plain (Bad p) rest = plain_at _ _ refl refl
words_plain Turn rest = plain_at _ _ refl refl

short_plain : (call : Call) (rest : List ℕ) → Plain (short_words call ++ rest)
short_plain (Open p r) rest = plain_at _ _ refl refl
short_plain (Close p) rest = plain_at _ _ refl refl
short_plain (Arrive p n t) rest = plain_at _ _ refl refl
short_plain (Good p) rest = plain_at _ _ refl refl
short_plain (Bad p) rest = plain_at _ _ refl refl
short_plain Turn rest = plain_at _ _ refl refl

text_plain : (text : List ℕ) (event : NotedCall) → IsTextOf text event → Plain text
text_plain text event (inl e) = subst Plain (sym e) (words_plain event.call (note_words event.note))
text_plain text event (inr h) = subst Plain (sym h.1) (short_plain event.call h.0)

event_again : (text : List ℕ) (event : NotedCall) → IsRecordable event → IsTextOf text event → event_in text ≡ Ok event
unfolding event_in
event_again text event fits (inl e) =
    rw (e, worded_again event.call (note_words event.note) fits.0 refl, bracketed_again event.note fits.1) refl
event_again text event fits (inr h) =
    rw (h.1, short_not_words event.call h.0, shortened_again event.call h.0 fits.0 (note_stops h.0 event.note h.2), given_again h.0 event.note h.2 fits.1) refl

with_note_takes : (call : Call) (o : Option (List ℕ)) (event : NotedCall) → with_note call o ≡ Ok event → (o ≡ Some event.note) × (call ≡ event.call)
with_note_takes call None event e = absurd cc
with_note_takes call (Some note) event e =
    let same : noted call note ≡ event = cc in
    (ap (λ (x : NotedCall). Some x.note) same, ap (λ (x : NotedCall). x.call) same)

short_takes : (text : List ℕ) (event : NotedCall) (o : Option (Call × List ℕ)) → shortened text ≡ o → in_short o ≡ Ok event → IsRecordable event × IsTextOf text event
short_takes text event None s e = absurd cc
short_takes text event (Some front) s e =
    let parts = with_note_takes front.0 (given front.1) event e in
    let call = shortened_takes text front s in
    let note = given_takes front.1 event.note parts.0 in
    ((subst Fits parts.1 call.1, note.1), inr (front.1, call.0 ∙ ap (λ (c : Call). short_words c ++ front.1) parts.1, note.0))

words_take : (text : List ℕ) (event : NotedCall) (o : Option (Call × List ℕ)) → worded text ≡ o → in_words o text ≡ Ok event → IsRecordable event × IsTextOf text event
words_take text event None w e = short_takes text event (shortened text) refl e
words_take text event (Some front) w e =
    let parts = with_note_takes front.0 (bracketed front.1) event e in
    let call = worded_takes text front w in
    let note = bracketed_takes front.1 event.note parts.0 in (
      (subst Fits parts.1 call.1, note.1),
      inl (call.0 ∙ (ap (λ (c : Call). call_words c ++ front.1) parts.1 ∙ ap (λ (t : List ℕ). call_words event.call ++ t) note.0)),
    )

event_takes : (text : List ℕ) (event : NotedCall) → event_in text ≡ Ok event → IsRecordable event × IsTextOf text event
unfolding event_in
event_takes text event e = words_take text event (worded text) refl e

-- ---- lines

numeral_no_comment : (ds rest : List ℕ) → IsNumeral 10 ds → is_comment (ds ++ rest) ≡ false
numeral_no_comment [] rest h = absurd (omega (arith, h.0))
numeral_no_comment (d ∷ ds) rest h = let range = digit_from_value d h.1.0 in ne_eqb d 35 (λ e. omega (arith, range.0))

pub reading_again : (line : List ℕ) (event : NotedCall) → IsRecordable event → Says line event → reading line ≡ Ok (Some event)
unfolding reading Plain
reading_again line event fits (inl is) =
    let plain = text_plain line event is in
    rw (plain.0, plain.1, event_again line event fits is) refl
reading_again line event fits (inr h) =
    let comment = numeral_no_comment (decimal h.0) (codes ": " ++ h.1) (decimal_is_IsNumeral h.0 h.2).0 in
    rw (h.3, comment, bare_again h.0 h.1 h.2, event_again h.1 event fits h.4) refl

-- a line that is read as an event has it for its text
abbrev Reads : Bool → Result NotedCall Misread → Result (Option NotedCall) Misread
Reads comment r = cond comment (Ok None) (result_map_both Some (λ why. why) r)

reads_event : (comment : Bool) (r : Result NotedCall Misread) (event : NotedCall) → Reads comment r ≡ Ok (Some event) → r ≡ Ok event
reads_event true r event e = absurd cc
reads_event false (Err why) event e = absurd cc
reads_event false (Ok x) event e = cc

pub reading_takes : (line : List ℕ) (event : NotedCall) → reading line ≡ Ok (Some event) → IsRecordable event × Says line event
unfolding reading Bares
reading_takes line event e =
    let takes = event_takes (bare line) event (reads_event (is_comment line) (event_in (bare line)) event e) in (
      takes.0,
      ⊎_elim
          (λ (same : bare line ≡ line). inl (subst (λ (t : List ℕ). IsTextOf t event) same takes.1))
          (λ (h : (n : ℕ) × (n < 2 ^ 64) × (line ≡ decimal n ++ (codes ": " ++ bare line))). inr (h.0, bare line, h.1, h.2, takes.1))
          (bares_at line (number_below (2 ^ 64) line) refl),
    )

-- what an answer says of its line
pub says_if : (line : List ℕ) (r : Result (Option NotedCall) Misread) → r ≡ reading line → IfOk r (λ found. IfSome found (λ event. IsRecordable event × Says line event))
says_if line (Err why) e = tt
says_if line (Ok None) e = tt
says_if line (Ok (Some event)) e = reading_takes line event (sym e)

pub comment_says : (line : List ℕ) → true ≡ is_comment line → reading line ≡ Ok None
unfolding reading
comment_says line e = rw (← e) refl
