-- The table of places: reading one, changing one, sums over all, and who is next.
use Rattle.std.specs.Prelude.{ℕ, zero, suc, ◌+◌, min, max, Bool, true, false, if◌then◌else◌, ◌&&◌}
use Rattle.std.specs.Prelude.{List, [], ◌∷◌, ℤ, pos, ◌+ℤ◌, Some, None, Option, is_none, option_map}
use Rattle.std.specs.Prelude.{option_and_then, ◌==◌}
use Rattle.model.specs.Session.{Session, vacant, above_zero}

abbrev pub Table : Type 0
Table = List Session

-- the session at a place; past the end there is none
unfoldable pub at : Table → ℕ → Session
at [] k = vacant
at (s ∷ t) zero = s
at (s ∷ t) (suc k) = at t k

unfoldable pub change : Table → ℕ → (Session → Session) → Table
change [] k f = []
change (s ∷ t) zero f = f s ∷ t
change (s ∷ t) (suc k) f = s ∷ change t k f

-- n vacant places
unfoldable pub vacancies : ℕ → Table
vacancies zero = []
vacancies (suc n) = vacant ∷ vacancies n

-- ---- sums

unfoldable pub total : (Session → ℕ) → Table → ℕ
total f [] = 0
total f (s ∷ t) = f s + total f t

unfoldable pub totalℤ : (Session → ℤ) → Table → ℤ
totalℤ f [] = pos 0
totalℤ f (s ∷ t) = f s +ℤ totalℤ f t

-- what all open places have booked; a vacant one has rate 0
abbrev pub booked_total : Table → ℕ
booked_total t = total (λ s. s.rate) t

abbrev pub one_if : Bool → ℕ
one_if b = if b then 1 else 0

-- what all lagging sessions together are owed, in bytes
abbrev pub total_owed : Table → ℕ
total_owed t = total (λ s. above_zero s.lag) t

-- how many sessions are active
abbrev pub active_count : Table → ℕ
active_count t = total (λ s. one_if s.active) t

-- ---- searches

-- the lowest place that passes a test
unfoldable pub first : (Session → Bool) → Table → Option ℕ
first p [] = None
first p (s ∷ t) = if p s then Some 0 else option_map suc (first p t)

abbrev pub sooner : Bool → ℕ → Option ℕ → Option ℕ
sooner false v r = r
sooner true v None = Some v
sooner true v (Some w) = Some (min v w)

-- the smallest virtual time of the active sessions
unfoldable pub least_time : Table → Option ℕ
least_time [] = None
least_time (s ∷ t) = sooner s.active s.virtual_time (least_time t)

-- the largest virtual time of any open session; a vacant place has 0
unfoldable pub latest_time : Table → ℕ
latest_time [] = 0
latest_time (s ∷ t) = max s.virtual_time (latest_time t)

abbrev pub none_active : Table → Bool
none_active t = is_none (least_time t)

abbrev pub due : ℕ → Session → Bool
due v s = s.active && s.virtual_time == v

-- whose turn it is: of the active sessions one with the smallest virtual time, the lowest place of
-- those
unfoldable pub chosen : Table → Option ℕ
chosen t = option_and_then (λ v. first (due v) t) (least_time t)
