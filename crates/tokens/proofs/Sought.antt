-- Words: where one stands among some, and the class that it has there.
-- Assumes nothing.
use Rattle.std.proofs.Common.{ℕ, ◌+◌, ◌≤◌, ◌<◌, arith, ◌≡◌, refl, sym, ◌∙◌, Bool, true, false, ◌&&◌, List, [], ◌∷◌, map, drop, length, get_or, Bor, eqb, eqb-true, lt-ltb, le-ltb}
use Rattle.std.proofs.Math.ListN.{get_or-map}
use native.Mathlib.Numerals.{add-one}
use lib.ListN.{drop_of_length-le}
use lib.Seq.{drop-cons}
use Rattle.names.specs.Names.{same, position}
use Rattle.names.proofs.Words.{same_itself}
use Rattle.text.specs.Grammar.{Token}
use Rattle.text.specs.Tokens.{code, axis_names, axis_name}
use Rattle.tokens.specs.declared.Class.{Class}
use Rattle.tokens.specs.Classes.{class_number}

-- ---- words that are not the same

pub same_other : (v w : List ℕ) → (v ≡ w → ⊥) → same v w ≡ false
unfolding same
same_other [] [] h = absurd (h refl)
same_other [] (c ∷ w) h = refl
same_other (b ∷ v) [] h = refl
same_other (b ∷ v) (c ∷ w) h = by (eqb b c) refl (same_other v w)
  where
    by : (t : Bool) → eqb b c ≡ t → ((v ≡ w → ⊥) → same v w ≡ false) → (t && same v w) ≡ false
    by true e rest = let first : b ≡ c = eqb-true b c e in rest (λ d. h (cc))
    by false e rest = refl

-- ---- where a word stands

pub position_none : (w : List ℕ) → position [] w ≡ 0
unfolding position
position_none w = refl

pub position_hit : (v w : List ℕ) (vs : List (List ℕ)) → v ≡ w → position (v ∷ vs) w ≡ 0
unfolding position
position_hit v w vs e = rw (e, same_itself w)

pub position_miss : (v w : List ℕ) (vs : List (List ℕ)) → (v ≡ w → ⊥) → position (v ∷ vs) w ≡ position vs w + 1
unfolding position
position_miss v w vs h = rw (same_other v w h) (omega arith)

-- ---- the class beside a word in a table

abbrev pub among : List (Bor (List ℕ) × Class) → Class → List ℕ → Class
among es other w = get_or (map (λ e. e.1) es) (position (map (λ e. e.0.now) es) w) other

module _ (es : List (Bor (List ℕ) × Class)) (other : Class) (w : List ℕ) (i : ℕ) where
  pub among_past : length es ≤ i → among (drop i es) other w ≡ other
  unfolding position
  among_past h = rw (drop_of_length-le es h)

  module _ (d : Bor (List ℕ) × Class) (h : i < length es) where
    pub among_here : (get_or es i d).0.now ≡ w → among (drop i es) other w ≡ (get_or es i d).1
    unfolding position
    among_here e = rw (drop-cons es i d h, e, same_itself w)

    pub among_behind : ((get_or es i d).0.now ≡ w → ⊥) → among (drop i es) other w ≡ among (drop (i + 1) es) other w
    unfolding position
    among_behind n = rw (drop-cons es i d h, same_other (get_or es i d).0.now w n, add-one i)

-- classes by their names in the code are those by their tokens
pub class_told :
    (cs : List Class) (ts : List Token) (c : Class) (t : Token) (p : ℕ) → map class_number cs ≡ map code ts → class_number c ≡ code t
    → class_number (get_or cs p c) ≡ code (get_or ts p t)
class_told cs ts c t p e f = sym (get_or-map class_number cs p c) ∙ (rw (e, f) (get_or-map code ts p t))

-- the class of an axis name
pub axis_named : (w : List ℕ) → position axis_names w < 13 → 13 ≡ axis_name w
unfolding axis_name axis_names code
axis_named w h = rw (lt-ltb _ 13 h)

pub axis_unknown : (w : List ℕ) → 13 ≤ position axis_names w → 33 ≡ axis_name w
unfolding axis_name axis_names code
axis_unknown w h = rw (le-ltb _ 13 h)
