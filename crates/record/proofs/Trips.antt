-- Writing and reading undo each other.
use Rattle.std.proofs.Common.{◌≡◌, ℕ, ◌+◌, ◌^◌, ◌<◌, ◌≤◌, true, false, ltb, List, [], ◌∷◌, ◌++◌, length, get_or, take, drop, Some, None, Ok, Err, Option, Result, sym, refl, ap, ◌∙◌, subst, arith, length-append, length-drop, length-take}
use Rattle.std.specs.List.{between}
use Rattle.std.specs.Borrow.{Bor}
use Rattle.std.proofs.lemmas.Grind.{common_steps}
use Rattle.std.proofs.lemmas.Bool.Decides.{nat_tests}
use Rattle.std.proofs.lemmas.Bool.{cond-true, cond-false, le-ltb}
use Rattle.std.proofs.lemmas.List.{take_at, drop_at, take_all, length-take-le, get_or-drop, take-append-drop, drop-drop, drop_more}
use Rattle.answer.specs.declared.fault.Fault.{Fault}
use Rattle.answer.specs.declared.refusal.Refusal.{Refusal}
use Rattle.answer.specs.declared.refusal.Refusal.TheVariants.{NoteNotPrintable}
use Rattle.record.specs.declared.call.Call.{Call}
use Rattle.record.specs.declared.call.Call.TheVariants.{Open, Close, Arrive, Good, Bad, Turn}
use Rattle.record.specs.declared.event.Event.{Event}
use Rattle.record.specs.declared.event.Event.TheVariants.{Open as Opens, Close as Closes, Arrive as Arrives}
use Rattle.record.specs.declared.event.Event.TheVariants.{Good as IsGood, Bad as IsBad, Turn as Turns}
use Rattle.record.specs.declared.letter.Letter.{Letter}
use Rattle.record.specs.declared.letter.Letter.TheVariants.{O, C, A, G, B, T}
use Rattle.record.specs.Letters.{among, byte_of, letter_of}
use Rattle.record.specs.Layout.{Contents, saying, recorded, contents, event_call, event_note, decoded, encoded, little, spread, note_in}
use Rattle.record.specs.Reading.{first_unprintable, fault_or, parsed, parsed_as, reading, reading_as, with_rest}
use Rattle.record.specs.Writing.{is_note, writing, written}
use Rattle.record.specs.Laws.{Gives, ReadsBack, with_note}
use Rattle.record.proofs.Numbers.{little_spread, spread_little}

note_parts : (note : List ℕ) → is_note note ≡ true → (length note ≡ 8) × (first_unprintable note ≡ None)
note_parts note e = grind (arith, nat_tests)

-- where writing is accepted, the note is one and the buffer has room
accepted : (c : Contents) (out : List ℕ) → writing c out ≡ Ok tt → (is_note c.note ≡ true) × (ltb (length out) 16 ≡ false)
accepted c out e = grind arith

-- a record is the front of the buffer that it was written into
pub front_is : (c : Contents) (out : List ℕ) → writing c out ≡ Ok tt → length c.note ≡ 8 → written c out ≡ encoded c ++ drop 16 out
front_is c out e h = grind arith

-- what parses at the front of an input
front : (number : ℕ) (c : Contents) (bs rest : List ℕ) → length bs ≡ 16 → parsed number bs ≡ Ok c → reading number (bs ++ rest) ≡ Ok (Some (c, rest))
front number c [] rest h e = absurd (omega arith)
front number c (b ∷ bs) rest h e =
    let long : 16 ≤ length ((b ∷ bs) ++ rest) = simp length-append (omega arith) in
    cond-false _ _ _ (le-ltb _ _ long)
    ∙ (λ i. with_rest (drop_at (b ∷ bs) rest 16 h i) (parsed number (take_at (b ∷ bs) rest 16 h i)))
    ∙ ap (with_rest rest) e

module _ (number : ℕ) (c : Contents) (out : List ℕ) (ok : writing c out ≡ Ok tt)
    (known : fault_or (first_unprintable (note_in (encoded c))) NoteNotPrintable number (Ok (decoded c.letter (encoded c))) ≡ parsed number (encoded c))
    (l : c.length < 2 ^ 16) (v : c.value < 2 ^ 32) where
  there : reading number (written c out) ≡ Ok (Some (c, drop 16 out))
  there =
      let a = accepted c out ok in
      let n = note_parts c.note a.0 in
      let t : note_in (encoded c) ≡ c.note = take_all 8 c.note (omega arith) in
      let d : decoded c.letter (encoded c) ≡ c =
      λ i. saying c.letter c.place (little_spread 2 c.length (omega arith) i) (little_spread 4 c.value (omega arith) i) (t i) in
      ap (reading number) (front_is c out ok n.0)
      ∙ front number c (encoded c) (drop 16 out) (omega arith)
      (sym known ∙ (λ i. fault_or ((ap first_unprintable t ∙ n.1) i) NoteNotPrintable number (Ok (d i))))

call_there : (c : Call) (n out : List ℕ) (number : ℕ) → (recorded c n).length < 2 ^ 16 → (recorded c n).value < 2 ^ 32 → writing (recorded c n) out ≡ Ok tt
    → reading number (written (recorded c n) out) ≡ Ok (Some (recorded c n, drop 16 out))
call_there (Open p r) n out number l v w = there number (recorded (Open p r) n) out w refl l v
call_there (Close p) n out number l v w = there number (recorded (Close p) n) out w refl l v
call_there (Arrive p m t) n out number l v w = there number (recorded (Arrive p m t) n) out w refl l v
call_there (Good p) n out number l v w = there number (recorded (Good p) n) out w refl l v
call_there (Bad p) n out number l v w = there number (recorded (Bad p) n) out w refl l v
call_there Turn n out number l v w = there number (recorded Turn n) out w refl l v

-- the event that contents say, with its note lying there
said : Contents → Bor (List ℕ) → Event
said c note = elim c.letter [
  | O ↦ Opens c.place c.value note
  | C ↦ Closes c.place note
  | A ↦ Arrives c.place c.length c.value note
  | G ↦ IsGood c.place note
  | B ↦ IsBad c.place note
  | T ↦ Turns note
]

-- an event that says the same is the same, but for where its note lies
said_moved : (e : Event) (note : Bor (List ℕ)) → said (contents e) note ≡ with_note note e
unfolding said
said_moved (Opens p r t) note = refl
said_moved (Closes p t) note = refl
said_moved (Arrives p n v t) note = refl
said_moved (IsGood p t) note = refl
said_moved (IsBad p t) note = refl
said_moved (Turns t) note = refl

with_own : (e : Event) → with_note (event_note e) e ≡ e
with_own (Opens p r t) = refl
with_own (Closes p t) = refl
with_own (Arrives p n v t) = refl
with_own (IsGood p t) = refl
with_own (IsBad p t) = refl
with_own (Turns t) = refl

says_note : (e : Event) → (contents e).note ≡ (event_note e).now
says_note (Opens p r t) = refl
says_note (Closes p t) = refl
says_note (Arrives p n v t) = refl
says_note (IsGood p t) = refl
says_note (IsBad p t) = refl
says_note (Turns t) = refl

same_event : (e other : Event) → contents other ≡ contents e → other ≡ with_note (event_note other) e
same_event e other h =
    sym (with_own other) ∙ sym (said_moved other (event_note other)) ∙ ap (λ (c : Contents). said c (event_note other)) h
    ∙ said_moved e (event_note other)

-- what was read, or something else
read_of : Contents × List ℕ → Result (Option (Contents × List ℕ)) Fault → Contents × List ℕ
read_of d (Ok (Some x)) = x
read_of d (Ok None) = d
read_of d (Err f) = d

gives : (e : Event) (rest : List ℕ) (r : Result (Option (Event × Bor (List ℕ))) Fault) → reading_as r ≡ Ok (Some (contents e, rest)) → Gives e rest r
unfolding read_of
gives e rest (Ok (Some x)) h =
    let same : contents x.0 ≡ contents e = ap (λ (r : Result (Option (Contents × List ℕ)) Fault). (read_of (contents e, rest) r).0) h in (
      same_event e x.0 same,
      sym (says_note x.0) ∙ ap (λ (c : Contents). c.note) same ∙ says_note e,
      ap (λ (r : Result (Option (Contents × List ℕ)) Fault). (read_of (contents e, rest) r).1) h,
    )
gives e rest (Ok None) h = absurd cc
gives e rest (Err f) h = absurd cc

pub reads_back : (e : Event) (before now : List ℕ) (r : Result (Unit {0}) Fault) → (contents e).length < 2 ^ 16 → (contents e).value < 2 ^ 32
    → r ≡ writing (contents e) before → now ≡ written (contents e) before → ReadsBack e before now r
reads_back e before now (Ok u) l v w a = λ number.
    let says : reading number now ≡ Ok (Some (contents e, drop 16 before)) =
    ap (reading number) a ∙ call_there (event_call e) (event_note e).now before number l v (sym w) in
    record { says = says; gives = λ r h. gives e (drop 16 before) r (h ∙ says) }
reads_back e before now (Err f) l v w a = tt

-- a byte that is a letter is how that letter is written
spelt : (ls : List Letter) (byte : ℕ) (l : Letter) → among ls byte ≡ Some l → byte_of l ≡ byte
spelt [] byte l e = cc
spelt (k ∷ ls) byte l e = grind (arith, nat_tests, spelt ls byte l)

fault_or_ok : (o : Option ℕ) (why : Refusal) (number : ℕ) (r : Result Contents Fault) (c : Contents) → fault_or o why number r ≡ Ok c → (o ≡ None) × (r ≡ Ok c)
fault_or_ok None why number r c e = (refl, e)
fault_or_ok (Some i) why number r c e = cc

same_ok : (c d : Contents) → ◌≡◌ {A = Result Contents Fault} (Ok c) (Ok d) → c ≡ d
same_ok c d e = cc

-- what parses is what the bytes say, under a letter that they begin with, with a note
pub record Parsed (bs : List ℕ) (c : Contents) : Type 0 where
  pub letter : Letter
  pub starts : byte_of letter ≡ get_or bs 0 0
  pub clean : first_unprintable (note_in bs) ≡ None
  pub says : decoded letter bs ≡ c

parsed_from : (number : ℕ) (bs : List ℕ) (o : Option Letter) (c : Contents) → letter_of (get_or bs 0 0) ≡ o → parsed_as number bs o ≡ Ok c → Parsed bs c
parsed_from number bs None c h e = cc
parsed_from number bs (Some l) c h e =
    let a = fault_or_ok _ _ _ _ _ e in
    let b = fault_or_ok _ _ _ _ _ a.1 in
    record { letter = l; starts = spelt (O ∷ C ∷ A ∷ G ∷ B ∷ T ∷ []) (get_or bs 0 0) l h; clean = b.0; says = same_ok _ c b.1 }

abbrev pub Small : List ℕ → Type 0
Small bs = (i : ℕ) → get_or bs i 0 < 2 ^ 8

small_take : (n : ℕ) (bs : List ℕ) → Small bs → Small (take n bs)
small_take n bs h i = grind (arith, common_steps, h i)

-- the bytes of a part, from the number that they are
part_again : (bs : List ℕ) (n k : ℕ) → n + k ≤ length bs → Small bs → spread k (little (take k (drop n bs))) ≡ take k (drop n bs)
part_again bs n k h t =
    let part : List ℕ = take k (drop n bs) in
    let long : length part ≡ k = simp (length-take, length-drop) (omega arith) in
    let small : Small part = small_take k (drop n bs) (λ i. subst (λ (x : ℕ). x < 2 ^ 8) (sym (get_or-drop n bs i 0)) (t (n + i))) in
    ap (λ (m : ℕ). spread m (little part)) (sym long) ∙ spread_little part small

-- a part and what follows it
part_rest : (bs : List ℕ) (n k : ℕ) → take k (drop n bs) ++ drop (n + k) bs ≡ drop n bs
part_rest bs n k = ap (λ (l : List ℕ). take k (drop n bs) ++ l) (sym (drop-drop k n bs)) ∙ take-append-drop k (drop n bs)

-- the bytes again
again : (bs : List ℕ) (l : Letter) → byte_of l ≡ get_or bs 0 0 → length bs ≡ 16 → Small bs → encoded (decoded l bs) ≡ bs
again bs l s h t =
    let note : note_in bs ≡ drop 8 bs = take_all 8 (drop 8 bs) (simp length-drop (omega arith)) in
    (λ i. s i ∷ get_or bs 1 0 ∷ (part_again bs 2 2 (omega arith) t i ++ (part_again bs 4 4 (omega arith) t i ++ note i)))
    ∙ (λ i. get_or bs 0 0 ∷ get_or bs 1 0 ∷ (between 2 4 bs ++ part_rest bs 4 4 i))
    ∙ (λ i. get_or bs 0 0 ∷ get_or bs 1 0 ∷ part_rest bs 2 2 i)
    ∙ ap (λ (r : List ℕ). get_or bs 0 0 ∷ r) (sym (drop_more bs 1 0 (omega arith)))
    ∙ sym (drop_more bs 0 0 (omega arith))

note_from : (note : List ℕ) → length note ≡ 8 → first_unprintable note ≡ None → is_note note ≡ true
note_from note h n = grind arith

pub write_again : (c : Contents) (input out : List ℕ) (number : ℕ) → Small input → 16 ≤ length input → parsed number (take 16 input) ≡ Ok c → 16 ≤ length out
    → (writing c out ≡ Ok tt) × (written c out ≡ take 16 input ++ drop 16 out)
write_again c input out number small enough read room =
    let bs : List ℕ = take 16 input in
    let long : length bs ≡ 16 = length-take-le 16 input enough in
    let p = parsed_from number bs _ c refl read in
    let same : encoded c ≡ bs = subst (λ (d : Contents). encoded d ≡ bs) p.says (again bs p.letter p.starts long (small_take 16 input small)) in
    let note : note_in bs ≡ c.note = ap (λ (d : Contents). d.note) p.says in
    let eight : length c.note ≡ 8 = subst (λ (l : List ℕ). length l ≡ 8) note (simp (length-take, length-drop) (omega arith)) in
    let clean : first_unprintable c.note ≡ None = subst (λ (l : List ℕ). first_unprintable l ≡ None) note p.clean in
    let ok : writing c out ≡ Ok tt = cond-true _ _ _ (note_from c.note eight clean) ∙ cond-false _ _ _ (le-ltb _ _ room) in
    (ok, front_is c out ok eight ∙ ap (λ (xs : List ℕ). xs ++ drop 16 out) same)
