-- Levels in bounded memory: a window of 2,048 levels, level i at i % 2048; the whole text is level 0.
-- Assumes nothing: these are definitions.
use Rattle.std.specs.Prelude.{ℕ, ◌-◌, ◌%◌, ◌≤◌, ◌<◌, ◌≡◌, List, length, get_or, set}
use Rattle.text.specs.declared.Level.{Level}
use Rattle.text.specs.Survey.{fresh}
use Rattle.survey.specs.declared.window.Slot.{Slot}

-- the most levels of a window
abbrev pub span : ℕ
span = 2048

-- a level as the window holds it
abbrev pub slot_of : Level → Slot
slot_of l = record {
  e = l.e;
  g = l.g;
  m = l.m;
  kind = l.kind;
  rank = l.rank;
  joined = l.joined;
  inpath = l.inpath;
  andor = l.andor;
}

-- the level that a slot holds
abbrev pub level_of : Slot → Level
level_of s = record {
  kind = s.kind;
  rank = s.rank;
  joined = s.joined;
  inpath = s.inpath;
  andor = s.andor;
  e = s.e;
  g = s.g;
  m = s.m;
}

-- the level with this number, and the window with it stored
unfoldable pub level_at : List Slot → ℕ → Level
level_at w i = level_of (get_or w (i % span) (slot_of (fresh 0 0)))

unfoldable pub stored : List Slot → ℕ → Level → List Slot
stored w i l = set w (i % span) (slot_of l)

-- of the levels around the innermost one, the innermost of them first, the one with this number
abbrev pub on_level : List Level → ℕ → Level
on_level around i = get_or around (length around - 1 - i) (fresh 0 0)

-- the window holds the levels from lo to before hi, as far as they are open
unfoldable pub Holds : List Slot → ℕ → ℕ → List Level → Type 0
Holds w lo hi around = (i : ℕ) → lo ≤ i → i < hi → i < length around → level_at w i ≡ on_level around i
