-- Past-time words over a history of events, oldest on the left: in `h ▷ e` the event e came after all of h. Each word is a short recursion; what the words
-- mean is proved in `PastLaws`. Assumes nothing.
use Rattle.std.specs.Prelude.{ℕ, ◌+◌, Bool, false, not, ◌&&◌, ◌||◌, cond, Option, None, Some}

infixl 20 ◌▷◌
pub data History (E : Type 0) : Type 0 where
  start : History E
  ◌▷◌ : History E → E → History E

abbrev pub told : {A : Type 0} → Option A → Option A → Option A
told None old = old
told (Some a) old = Some a

module _ {E : Type 0} where
  -- how many events pass
  unfoldable pub count : (E → Bool) → History E → ℕ
  count p start = 0
  count p (h ▷ e) = cond (p e) (count p h + 1) (count p h)

  -- how many events pass that came after the latest mark
  unfoldable pub count_since : (E → Bool) → (E → Bool) → History E → ℕ
  count_since p mark start = 0
  count_since p mark (h ▷ e) = cond (mark e) 0 (cond (p e) (count_since p mark h + 1) (count_since p mark h))

  -- an event raised it, and none since has cleared it; both are judged by what was before them
  unfoldable pub since : (History E → E → Bool) → (History E → E → Bool) → History E → Bool
  since raised cleared start = false
  since raised cleared (h ▷ e) = raised h e || (since raised cleared h && not (cleared h e))

  -- what the latest event that tells something tells, by what was before it, forgotten at an event that forgets
  unfoldable pub latest : {A : Type 0} → (History E → E → Option A) → (E → Bool) → History E → Option A
  latest tells forgets start = None
  latest tells forgets (h ▷ e) = cond (forgets e) None (told (tells h e) (latest tells forgets h))

  -- a value that each event may move, by what was before it
  unfoldable pub carried : {A : Type 0} → A → (History E → E → A → A) → History E → A
  carried first moves start = first
  carried first moves (h ▷ e) = moves h e (carried first moves h)

  -- something holds of each event and what was before it
  abbrev pub Each : (History E → E → Type 0) → History E → Type 0
  Each P start = Unit
  Each P (h ▷ e) = Each P h × P h e
