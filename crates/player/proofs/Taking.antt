-- How much is taken of an input, at most.
use Rattle.std.proofs.Common.{ℕ, ◌+◌, ◌≤◌, List, [], ◌++◌, Option, take, arith, length-append, length-take}
use Rattle.std.proofs.KnownBytes.{Consumes-nil, Consumes-trans}
use Rattle.recording.specs.Taking.{Takes, TakesUpTo}

pub up_to_none : (most : ℕ) (a : Option (List ℕ)) → TakesUpTo most a a
up_to_none most a = ([], Consumes-nil a, omega arith)

pub up_to_sixteen : (a b : Option (List ℕ)) (bytes : List ℕ) (n : ℕ) → n ≤ 16 → Takes a b bytes n → TakesUpTo 16 a b
up_to_sixteen a b bytes n fits h = (take n bytes, h.0, omega (arith, length-take n bytes))

pub up_to_more : (a b c : Option (List ℕ)) (m k most : ℕ) → m + k ≤ most → TakesUpTo m a b → TakesUpTo k b c → TakesUpTo most a c
up_to_more a b c m k most fits p q = (p.0 ++ q.0, Consumes-trans a b c p.0 q.0 p.1 q.1, omega (arith, length-append p.0 q.0, p.2, q.2))

pub up_to_fewer : (a b : Option (List ℕ)) (m most : ℕ) → m ≤ most → TakesUpTo m a b → TakesUpTo most a b
up_to_fewer a b m most fits p = (p.0, p.1, omega (arith, p.2))
