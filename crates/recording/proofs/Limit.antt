-- The limit in bytes is that in records.
use Rattle.std.proofs.Common.{◌≡◌, ℕ, zero, suc, ◌+◌, ◌*◌, inl, inr, cond, ◌==◌, IfSome, option_map, List, [], ◌++◌, Option, Some, None, Result, Ok, Err, length, take, drop, refl, sym, ap, ◌∙◌, subst, arith, length-take-le, take-append-drop, append-nil, take_all}
use Rattle.std.proofs.lemmas.Bool.Decides.{leb_tells}
use Rattle.std.specs.Io.KnownBytes.{Appends, Keeps, append_known, prepend_known}
use Rattle.answer.specs.declared.fault.Fault.{Fault}
use Rattle.record.specs.Layout.{Contents}
use Rattle.record.specs.Reading.{reading}
use Rattle.recording.specs.Recordings.{begun, recording, Recording, with_first}
use Rattle.std.proofs.lemmas.Option.{IfSome_then}
use Rattle.recording.proofs.Reading.{before, reading_front}
use lib.Seq.{take-add}

begun_same : (f g : List ℕ → Recording) (xs ys : List ℕ) → f xs ≡ g ys → (r : Result (Option (Contents × List ℕ)) Fault)
    → begun (before xs r) f ≡ begun (before ys r) g
begun_same f g xs ys e (Ok None) = refl
begun_same f g xs ys e (Ok (Some r)) = ap (with_first r.0) e
begun_same f g xs ys e (Err fault) = refl

pub limited : (most number : ℕ) (bytes : List ℕ) → recording most number (take (16 * most) bytes) ≡ recording most number bytes
unfolding recording
limited zero number bytes = refl
limited (suc most) number bytes =
    elim (leb_tells 16 (length bytes)) [
      | inl w ↦
          let front : length (take 16 bytes) ≡ 16 = length-take-le 16 bytes (omega arith) in
          let later : List ℕ → Recording = λ rest. recording most (number + 1) rest in
          let read : (rest : List ℕ) → reading number (take 16 bytes ++ rest) ≡ before rest (reading number (take 16 bytes)) =
          λ rest. reading_front number (take 16 bytes) rest (omega arith) (λ lt. absurd (omega arith)) in
          let times : 16 * suc most ≡ 16 + 16 * most = omega arith in
          ap (λ (n : ℕ). begun (reading number (take n bytes)) later) times
          ∙ ap (λ (l : List ℕ). begun (reading number l) later) (take-add 16 (16 * most) bytes)
          ∙ ap (λ r. begun r later) (read (take (16 * most) (drop 16 bytes)))
          ∙ begun_same later later (take (16 * most) (drop 16 bytes)) (drop 16 bytes) (limited most (number + 1) (drop 16 bytes)) (reading number (take 16 bytes))
          ∙ sym (ap (λ r. begun r later) (read (drop 16 bytes)))
          ∙ ap (λ (l : List ℕ). begun (reading number l) later) (take-append-drop 16 bytes)
      | inr w ↦ ap (λ (l : List ℕ). begun (reading number l) (λ rest. recording most (number + 1) rest)) (take_all (16 * suc most) bytes (omega arith))
    ]

-- what went through a buffer that was empty at first, and was written out
through : (a b c d : Option (List ℕ)) (text : List ℕ) → Appends (append_known a []) b text → Keeps b c → Keeps c d → Appends a d text
through None b c d text p q r = tt
through (Some x) None c d text p q r = absurd p
through (Some x) (Some y) None d text p q r = absurd q
through (Some x) (Some y) (Some z) None text p q r = absurd r
through (Some x) (Some y) (Some z) (Some w) text p q r = r ∙ q ∙ p ∙ ap (λ (l : List ℕ). l ++ text) (append-nil x)

pub put_through : (a inner b c d : Option (List ℕ)) (buffer text : List ℕ) → inner ≡ a → buffer ≡ []
    → Appends (append_known inner buffer) b text → Keeps b c → Keeps c d → Appends a d text
put_through a inner b c d buffer text e f p =
    through a b c d text (subst (λ (l : List ℕ). Appends (append_known a l) b text) f (subst (λ (o : Option (List ℕ)). Appends (append_known o buffer) b text) e p))

-- what is read through an empty buffer, up to the limit, is the recording
from_buffer : (known : Option (List ℕ)) (most : ℕ) (P : Recording → Type 0)
    → IfSome (prepend_known [] (option_map (take (16 * most)) known)) (λ xs. P (recording most 1 xs)) → IfSome known (λ xs. P (recording most 1 xs))
from_buffer None most P h = tt
from_buffer (Some xs) most P h = subst P (limited most 1 xs) h

-- a buffer with room shows what is behind it
shown : (size : ℕ) (o : Option (List ℕ)) → size ≡ 8192 → cond (size == 0) None o ≡ o
shown size o e = ap (λ (n : ℕ). cond (n == 0) None o) e

pub read_through : (size limit most : ℕ) (buffer : List ℕ) (known inner : Option (List ℕ)) (P : Recording → Type 0)
    → size ≡ 8192 → buffer ≡ [] → limit ≡ 16 * most → inner ≡ known
    → IfSome (cond (size == 0) None (prepend_known buffer (option_map (take limit) inner))) (λ xs. P (recording most 1 xs))
    → IfSome known (λ xs. P (recording most 1 xs))
read_through size limit most buffer known inner P a b c e h =
    let Q : Option (List ℕ) → Type 0 = λ o. IfSome o (λ xs. P (recording most 1 xs)) in
    from_buffer known most P
    (subst (λ (o : Option (List ℕ)). Q (prepend_known [] (option_map (take (16 * most)) o))) e
    (subst (λ (n : ℕ). Q (prepend_known [] (option_map (take n) inner))) c
    (subst (λ (l : List ℕ). Q (prepend_known l (option_map (take limit) inner))) b
    (subst Q (shown size (prepend_known buffer (option_map (take limit) inner)) a) h))))

-- both ways, where `text` is what is printed of a recording
pub all_through : (text : Recording → List ℕ) (size limit most : ℕ) (buffer : List ℕ) (known inner : Option (List ℕ))
    (a inside b c d : Option (List ℕ)) (held : List ℕ)
    → size ≡ 8192 → buffer ≡ [] → limit ≡ 16 * most → inner ≡ known → inside ≡ a → held ≡ [] → Keeps b c → Keeps c d
    → IfSome (cond (size == 0) None (prepend_known buffer (option_map (take limit) inner))) (λ xs. Appends (append_known inside held) b (text (recording most 1 xs)))
    → IfSome known (λ xs. Appends a d (text (recording most 1 xs)))
all_through text size limit most buffer known inner a inside b c d held e f g h i j k l all =
    IfSome_then known
    {P = λ xs. Appends (append_known inside held) b (text (recording most 1 xs))} {Q = λ xs. Appends a d (text (recording most 1 xs))}
    (read_through size limit most buffer known inner (λ r. Appends (append_known inside held) b (text r)) e f g h all)
    (λ xs p. put_through a inside b c d held (text (recording most 1 xs)) i j p k l)

-- an empty buffer holds nothing back
pub drained : (o : Option (List ℕ)) (buffer : List ℕ) → buffer ≡ [] → Keeps (append_known o buffer) o
drained None buffer e = tt
drained (Some xs) buffer e = sym (ap (λ (l : List ℕ). xs ++ l) e ∙ append-nil xs)

pub kept_as : (a b : Option (List ℕ)) → b ≡ a → Keeps a b
kept_as None b e = tt
kept_as (Some x) None e = cc
kept_as (Some x) (Some y) e = cc

pub drained_into : (o : Option (List ℕ)) (buffer : List ℕ) (b : Option (List ℕ)) → buffer ≡ [] → b ≡ o → Keeps (append_known o buffer) b
drained_into o buffer b e f = subst (λ (p : Option (List ℕ)). Keeps (append_known o buffer) p) (sym f) (drained o buffer e)
