-- One text after another at the end of a line.
use Rattle.std.proofs.Common.{◌≡◌, ℕ, ◌+◌, ◌<◌, ◌≤◌, List, [], ◌++◌, length, ap, subst, ◌∙◌, append_assoc, arith, length-append}
use Rattle.record.specs.Putting.{Appends}

pub and_then : {line a b one two : List ℕ} → Appends line a one → Appends one b two → Appends line (a ++ b) two
and_then {line} {a} {b} {one} {two} p q =
    record {
      holds = λ h.
          let both : length line + (length a + length b) ≤ 64 = subst (λ (n : ℕ). length line + n ≤ 64) (length-append a b) h in
          let first : one ≡ line ++ a = p.holds (omega arith) in
          let so_far : length one ≡ length line + length a = ap length first ∙ length-append line a in
          q.holds (omega arith) ∙ ap (λ (l : List ℕ). l ++ b) first ∙ append_assoc line a b;
    }

-- the same text in other words
pub retext : {line a b now : List ℕ} → a ≡ b → Appends line a now → Appends line b now
retext {line} {a} {b} {now} e p = subst (λ (l : List ℕ). Appends line l now) e p

-- the two parts of a line are shorter than the room for it
pub both_short : (head tail : List ℕ) → length head ≤ 49 → length tail ≤ 10 → length (head ++ tail) < 64
both_short head tail h t = simp length-append (omega arith)

-- a line that was begun with nothing and is shorter than the room for it
pub whole : {line one text : List ℕ} → line ≡ [] → Appends line text one → length text < 64 → one ≡ text
whole {line} {one} {text} e p h = let none : length line ≡ 0 = ap length e in p.holds (omega arith) ∙ ap (λ (l : List ℕ). l ++ text) e
