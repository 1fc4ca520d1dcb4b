-- A line and then the lines after it are the whole talk.
use Rattle.std.specs.Io.KnownBytes.{Appends, IsAtEnd}
use Rattle.std.specs.Io.BufRead.{take_through, drop_through}
use Rattle.std.proofs.Common.{◌≡◌, ℕ, zero, suc, Bool, true, false, true≢false, List, [], ◌∷◌, ◌++◌, ◌<◌, arith, length, if◌then◌else◌, Option, Some, None, Result, Ok, Err, IfSome, refl, sym, ap, ◌∙◌, subst, append_assoc, append-nil}
use Rattle.std.proofs.KnownBytes.{Appends-nil, Appends-trans}
use Rattle.chooser.specs.Meaning.{Meaning}
use Rattle.chooser.specs.declared.entry.ListKind.{ListKind}
use Rattle.model.specs.Calls.{Call as TheCall}
use Rattle.model.specs.Cell.{Cell}
use Rattle.model.specs.History.{after}
use Rattle.console.specs.Commands.{reading}
use Rattle.console.specs.Talks.{Reading, call_of_line, calls_in, goes_on, left_by, line_told, said, told, up_to_quit}
use Rattle.console.specs.declared.command.Command.{Command}
use Rattle.console.specs.declared.command.Command.TheVariants.{Call, Session, Frame, Mark, Booked, Turns, Keep, Count, Help, Quit}
use Rattle.console.specs.declared.command.Unknown.{Unknown}

module _ {C : Type 0} (M : Meaning C) where
  -- the call of a line is the first of those that are left
  left_after : (x : Cell C) (r : Reading) (cs : List TheCall) → after M x (call_of_line r ++ cs) ≡ after M (left_by M x r) cs
  unfolding after
  left_after x (Ok None) cs = refl
  left_after x (Ok (Some (Call call))) cs = refl
  left_after x (Ok (Some (Session place))) cs = refl
  left_after x (Ok (Some (Frame place i))) cs = refl
  left_after x (Ok (Some Mark)) cs = refl
  left_after x (Ok (Some Booked)) cs = refl
  left_after x (Ok (Some Turns)) cs = refl
  left_after x (Ok (Some Keep)) cs = refl
  left_after x (Ok (Some (Count list place))) cs = refl
  left_after x (Ok (Some Help)) cs = refl
  left_after x (Ok (Some Quit)) cs = refl
  left_after x (Err u) cs = refl

-- a line and the lines after it, by whether these are read
abbrev up_to : Bool → Reading → List Reading → List Reading
up_to b r later = r ∷ (if b then later else [])

empty_is_short : (l : List ℕ) → l ≡ [] → 0 < length l → ⊥
empty_is_short l e h = let short : 0 < length {A = ℕ} [] = subst (λ (t : List ℕ). 0 < length t) e h in absurd (omega arith)

-- a text that has a line begins with it
opened : (most : ℕ) (text : List ℕ) → (take_through 10 text ≡ [] → ⊥)
    → said (suc most) text ≡ up_to_quit (reading (take_through 10 text)) (said most (drop_through 10 text))
unfolding said
opened most [] h = absurd (h refl)
opened most (b ∷ bs) h = refl

nothing_said : (most : ℕ) → said most [] ≡ []
unfolding said
nothing_said zero = refl
nothing_said (suc most) = refl

-- from a cell that was talked to so far, with what is left of the input, all of a talk is had
pub record Remains {C : Type 0} (M : Meaning C) (counts : C → ListKind → ℕ → Option ℕ) (first : Cell C) (all : List Reading)
    (before : Option (List ℕ)) (x : Cell C) (most : ℕ) (left now : Option (List ℕ)) : Type 0 where
  pub front : List ℕ
  pub rest : List ℕ
  pub printed : Appends before now front
  pub is : left ≡ Some rest
  pub lines : told M counts first all ≡ front ++ told M counts x (said most rest)
  pub cell : after M first (calls_in all) ≡ after M x (calls_in (said most rest))

-- all was told, and all calls were made
abbrev pub Finished : {C : Type 0} (M : Meaning C) (counts : C → ListKind → ℕ → Option ℕ) (first : Cell C) (all : List Reading)
    (before now : Option (List ℕ)) (x : Cell C) → Type 0
Finished M counts first all before now x =
    Appends before now (told M counts first all) × (x ≡ after M first (calls_in all))

module _ {C : Type 0} (M : Meaning C) (counts : C → ListKind → ℕ → Option ℕ) where
  pub remains_first : (x : Cell C) (most : ℕ) (text : List ℕ) (left out : Option (List ℕ)) → left ≡ Some text
      → Remains M counts x (said most text) out x most left out
  remains_first x most text left out is =
      record { front = []; rest = text; printed = Appends-nil out; is = is; lines = refl; cell = refl }

  module _ (first : Cell C) (all : List Reading) (before : Option (List ℕ)) (x : Cell C) (most : ℕ) (left now : Option (List ℕ))
      (h : Remains M counts first all before x most left now) where
    -- nothing is left to be said
    finished : said most h.rest ≡ [] → Finished M counts first all before now x
    unfolding told calls_in after
    finished none = (
      subst (Appends before now) (sym (h.lines ∙ ap (λ (rs : List Reading). h.front ++ told M counts x rs) none ∙ append-nil h.front)) h.printed,
      sym (h.cell ∙ ap (λ (rs : List Reading). after M x (calls_in rs)) none),
    )

    -- more lines than any input has were read
    pub finished_at_limit : most ≡ 0 → Finished M counts first all before now x
    unfolding said
    finished_at_limit e = finished (ap (λ (k : ℕ). said k h.rest) e)

    -- the input has ended
    pub finished_at_end : IsAtEnd left → Finished M counts first all before now x
    finished_at_end e =
        let none : h.rest ≡ [] = subst IsAtEnd h.is e in
        finished (ap (λ (t : List ℕ). said most t) none ∙ nothing_said most)

    module _ (later : ℕ) (more : most ≡ suc later) (line old new : List ℕ) (some : 0 < length line) (y : Cell C) (after_left after_now : Option (List ℕ))
        (value : line ≡ new) (empty : old ≡ []) (read : IfSome left (λ text. new ≡ old ++ take_through 10 text))
        (drops : IfSome left (λ text. after_left ≡ Some (drop_through 10 text)))
        (cell : y ≡ left_by M x (reading line)) (lines : Appends now after_now (line_told M counts x (reading line))) where
      first_line : line ≡ take_through 10 h.rest
      first_line =
          value ∙ subst (λ (o : Option (List ℕ)). IfSome o (λ text. new ≡ old ++ take_through 10 text)) h.is read
          ∙ ap (λ (l : List ℕ). l ++ take_through 10 h.rest) empty

      dropped : after_left ≡ Some (drop_through 10 h.rest)
      dropped = subst (λ (o : Option (List ℕ)). IfSome o (λ text. after_left ≡ Some (drop_through 10 text))) h.is drops

      begun : said most h.rest ≡ up_to_quit (reading line) (said later (drop_through 10 h.rest))
      begun =
          ap (λ (k : ℕ). said k h.rest) more
          ∙ opened later h.rest (λ e. empty_is_short line (first_line ∙ e) some)
          ∙ ap (λ (t : List ℕ). up_to_quit (reading t) (said later (drop_through 10 h.rest))) (sym first_line)

      -- the line was the last one
      pub finished_by_quit : goes_on (reading line) ≡ false → Finished M counts first all before after_now y
      unfolding told calls_in after
      finished_by_quit quits =
          let last : said most h.rest ≡ reading line ∷ [] = begun ∙ ap (λ (b : Bool). up_to b (reading line) (said later (drop_through 10 h.rest))) quits in (
            subst (Appends before after_now)
                (sym (h.lines ∙ ap (λ (rs : List Reading). h.front ++ told M counts x rs) last
                ∙ ap (λ (t : List ℕ). h.front ++ t) (append-nil (line_told M counts x (reading line)))))
                (Appends-trans before now after_now _ _ h.printed lines),
            cell ∙ sym (h.cell ∙ ap (λ (rs : List Reading). after M x (calls_in rs)) last ∙ left_after M x (reading line) []),
          )

      -- one line more was answered
      pub remains_next : goes_on (reading line) ≡ true → Remains M counts first all before y later after_left after_now
      unfolding told calls_in
      remains_next goes =
          let next : said most h.rest ≡ reading line ∷ said later (drop_through 10 h.rest) = begun ∙ ap (λ (b : Bool). up_to b (reading line) (said later (drop_through 10 h.rest))) goes in
          record {
            front = h.front ++ line_told M counts x (reading line);
            rest = drop_through 10 h.rest;
            printed = Appends-trans before now after_now _ _ h.printed lines;
            is = dropped;
            lines =
                h.lines ∙ ap (λ (rs : List Reading). h.front ++ told M counts x rs) next
                ∙ sym (append_assoc h.front _ _)
                ∙ ap (λ (z : Cell C). (h.front ++ line_told M counts x (reading line)) ++ told M counts z (said later (drop_through 10 h.rest))) (sym cell);
            cell =
                h.cell ∙ ap (λ (rs : List Reading). after M x (calls_in rs)) next
                ∙ left_after M x (reading line) (calls_in (said later (drop_through 10 h.rest)))
                ∙ ap (λ (z : Cell C). after M z (calls_in (said later (drop_through 10 h.rest)))) (sym cell);
          }
