-- The fault that is kept, and how urgent the survey has it: where the survey notes a fault, the most urgent of the two is kept.
-- Assumes nothing.
use Rattle.std.proofs.Common.{ℕ, ◌+◌, ◌*◌, ◌≤◌, ◌<◌, max, ◌≡◌, refl, ◌∙◌, ap, sym, subst, Bool, true, false, ◌&&◌, ◌||◌, not, ⊎_elim, T, eqb, ltb, leb, eqb→eq, ltb→lt, leb→le, le→leb, length, le_of_lt, arith, Option, None, Some, ltb-false, eq-eqb}
use Rattle.meaning.proofs.Bools.{and_l, and_r, and_i, or_e, or_none_l, or_none_r, truly, eq_or_ne}
use Rattle.text.specs.declared.Fault.{Fault}
use Rattle.text.specs.declared.Level.{Level}
use Rattle.text.specs.declared.Sort.{Sort}
use Rattle.text.specs.Limited.{Source, number_taken, path_taken}
use Rattle.text.specs.Survey.{urgency, noted, wants_path, bare, member_sort, operator_faults, sign_faults, end_faults}
use Rattle.levels.specs.Levels.{sooner, lowered, urgency_of, sound}

-- a number and a place that a fault may have
pub record Possible (s : Source) (n p : ℕ) : Type 0 where
  pub least : 24 ≤ n
  pub most : n ≤ 26
  pub within : p ≤ length s.text

-- the fault f is sound, and as urgent as found
pub record Tells (s : Source) (f : Option Fault) (found : ℕ) : Type 0 where
  pub urgent : urgency_of s f ≡ found
  pub safe : T (sound s f)

-- the bytes of a level are at most top; they are bytes of the text, or its end
pub record Within (top : ℕ) (l : Level) : Type 0 where
  pub e_inside : l.e ≤ top
  pub g_inside : l.g ≤ top
  pub m_inside : l.m ≤ top

abbrev pub Inside : Source → Level → Type 0
Inside s l = Within (length s.text) l

-- a sound fault is as urgent as it is
pub sound_tells : (s : Source) (f : Option Fault) → T (sound s f) → Tells s f (urgency_of s f)
sound_tells s f h = record { urgent = refl; safe = h }

module _ (s : Source) where
  -- ---- a sound fault is a possible one

  pub sound_is : (f : Fault) → T (sound s (Some f)) → Possible s f.number f.place
  unfolding sound
  sound_is f h =
      let n : ℕ = f.number in
      let p : ℕ = f.place in
      let size : ℕ = length s.text in
      record {
        least = leb→le 24 n (and_l (leb 24 n) (leb n 26 && leb p size) h);
        most = leb→le n 26 (and_l (leb n 26) (leb p size) (and_r (leb 24 n) (leb n 26 && leb p size) h));
        within = leb→le p size (and_r (leb n 26) (leb p size) (and_r (leb 24 n) (leb n 26 && leb p size) h));
      }

  pub none_urgent : urgency_of s None ≡ 0
  unfolding urgency_of
  none_urgent = refl

  pub there_sound : (f : Fault) → Possible s f.number f.place → T (sound s (Some f))
  unfolding sound
  there_sound f h =
      let n : ℕ = f.number in
      let p : ℕ = f.place in
      let size : ℕ = length s.text in
      and_i (leb 24 n) (leb n 26 && leb p size) (le→leb 24 n h.least)
      (and_i (leb n 26) (leb p size) (le→leb n 26 h.most) (le→leb p size h.within))

  pub there_urgent : (f : Fault) → urgency_of s (Some f) ≡ urgency s f.number f.place
  unfolding urgency_of
  there_urgent f = refl

  -- ---- the sooner of two faults

  less_urgent : (n p m q : ℕ) → 32 * q + m ≤ 32 * p + n → urgency s n p ≤ urgency s m q
  unfolding urgency
  less_urgent n p m q h = omega arith

  -- the test of `sooner`, of a fault that is there
  is_sooner : ℕ → ℕ → Fault → Bool
  is_sooner n p f = ltb p f.place || (eqb p f.place && ltb n f.number)

  sooner_less : (n p : ℕ) (f : Fault) → Possible s n p → Possible s f.number f.place → T (is_sooner n p f)
      → 32 * p + n < 32 * f.place + f.number
  unfolding is_sooner
  sooner_less n p f h k t =
      let q : ℕ = f.place in
      let m : ℕ = f.number in
      or_e (ltb p q) (eqb p q && ltb n m) t
      (λ a. let less : p < q = ltb→lt p q a in omega arith)
      (λ a.
      let same : p ≡ q = eqb→eq p q (and_l (eqb p q) (ltb n m) a) in
      let less : n < m = ltb→lt n m (and_r (eqb p q) (ltb n m) a) in
      omega arith)

  later_most : (n p : ℕ) (f : Fault) → Possible s n p → Possible s f.number f.place → is_sooner n p f ≡ false
      → 32 * f.place + f.number ≤ 32 * p + n
  unfolding is_sooner
  later_most n p f h k t =
      let q : ℕ = f.place in
      let m : ℕ = f.number in
      let after : q ≤ p = ltb-false p q (or_none_l (ltb p q) (eqb p q && ltb n m) t) in
      ⊎_elim (λ e. let less : ltb n m ≡ false = rw (eq-eqb p q e) at (or_none_r (ltb p q) (eqb p q && ltb n m) t) in omega (arith, ltb-false n m less))
      (λ d. let apart : p ≡ q → ⊥ = d in omega arith)
      (eq_or_ne p q)

  abbrev new : ℕ → ℕ → Fault
  new n p = record { number = n; place = p }

  sooner_none : (n p : ℕ) → sooner n p None ≡ Some (new n p)
  unfolding sooner
  sooner_none n p = refl

  sooner_taken : (n p : ℕ) (f : Fault) → is_sooner n p f ≡ true → sooner n p (Some f) ≡ Some (new n p)
  unfolding sooner is_sooner
  sooner_taken n p f e = rw e

  sooner_left : (n p : ℕ) (f : Fault) → is_sooner n p f ≡ false → sooner n p (Some f) ≡ Some f
  unfolding sooner is_sooner
  sooner_left n p f e = rw e

  -- the new fault is kept, and it is the more urgent; or the old one is
  new_told : {n p : ℕ} (f : Option Fault) {x : ℕ} → Possible s n p → sooner n p f ≡ Some (new n p) → x ≤ urgency s n p
      → Tells s (sooner n p f) (max (urgency s n p) x)
  new_told {n} {p} f {x} h e less =
      let most : max (urgency s n p) x ≡ urgency s n p = omega arith in
      record {
        urgent = ap (urgency_of s) e ∙ (there_urgent (new n p) ∙ sym most);
        safe = subst (λ (g : Option Fault). T (sound s g)) (sym e) (there_sound (new n p) h);
      }

  old_told : (n p : ℕ) {f : Option Fault} {x : ℕ} → Tells s f x → sooner n p f ≡ f → urgency s n p ≤ x
      → Tells s (sooner n p f) (max (urgency s n p) x)
  old_told n p {f} {x} h e less =
      let most : max (urgency s n p) x ≡ x = omega arith in
      record {
        urgent = ap (urgency_of s) e ∙ (h.urgent ∙ sym most);
        safe = subst (λ (g : Option Fault). T (sound s g)) (sym e) h.safe;
      }

  sooner_on : (f : Option Fault) {n p x : ℕ} → Possible s n p → Tells s f x → Tells s (sooner n p f) (max (urgency s n p) x)
  sooner_on None {n} {p} {x} h told =
      let nothing : x ≡ 0 = sym told.urgent ∙ none_urgent in
      new_told None h (sooner_none n p) (omega arith)
  sooner_on (Some f) {n} {p} {x} h told = by (is_sooner n p f) refl
    where
      k : Possible s f.number f.place
      k = sound_is f told.safe

      known : x ≡ urgency s f.number f.place
      known = sym told.urgent ∙ there_urgent f

      by : (t : Bool) → is_sooner n p f ≡ t → Tells s (sooner n p (Some f)) (max (urgency s n p) x)
      by true e =
          new_told (Some f) h (sooner_taken n p f e)
          (subst (λ (z : ℕ). z ≤ urgency s n p) (sym known) (less_urgent f.number f.place n p (le_of_lt (sooner_less n p f h k (truly e)))))
      by false e =
          old_told n p told (sooner_left n p f e)
          (subst (λ (z : ℕ). urgency s n p ≤ z) (sym known) (less_urgent n p f.number f.place (later_most n p f h k e)))

  pub sooner_tells : {n p : ℕ} {f : Option Fault} {x : ℕ} → Possible s n p → Tells s f x → Tells s (sooner n p f) (max (urgency s n p) x)
  sooner_tells {f = f} h told = sooner_on f h told

  pub lowered_tells : (b : Bool) {p : ℕ} {f : Option Fault} {x : ℕ} → p ≤ length s.text → Tells s f x → Tells s (lowered b p f) (noted s b p x)
  unfolding lowered noted
  lowered_tells true h told = sooner_tells (record { least = omega arith; most = omega arith; within = h }) told
  lowered_tells false h told = told

  -- ---- what operators, signs and ends of levels show

  pub operator_faults_tell :
      (k : ℕ) {l : Level} (v : Sort) {f : Option Fault} {x : ℕ} → Inside s l → Tells s f x
      → Tells s (operator_faults lowered k l v f) (operator_faults (noted s) k l v x)
  unfolding operator_faults
  operator_faults_tell k {l} v i told =
      lowered_tells ((ltb 0 l.rank || leb 3 k) && not (number_taken (member_sort l v))) i.m_inside
      (lowered_tells (wants_path l && bare l) i.e_inside
      (lowered_tells (eqb k 3 && eqb l.rank 2) i.e_inside
      (lowered_tells (eqb k 4 && eqb l.rank 2) i.g_inside told)))

  pub sign_faults_tell : {l : Level} {f : Option Fault} {x : ℕ} → Inside s l → Tells s f x
      → Tells s (sign_faults lowered l f) (sign_faults (noted s) l x)
  unfolding sign_faults
  sign_faults_tell {l} i told = lowered_tells (wants_path l && bare l) i.e_inside told

  pub end_faults_tell :
      {l : Level} (v : Sort) {f : Option Fault} {x : ℕ} → Inside s l → Tells s f x → Tells s (end_faults lowered l v f) (end_faults (noted s) l v x)
  unfolding end_faults
  end_faults_tell {l} v i told =
      lowered_tells (ltb 0 l.rank && not (number_taken (member_sort l v))) i.m_inside
      (lowered_tells (wants_path l && bare l && not (path_taken (member_sort l v))) i.e_inside told)

  -- ---- how urgent a fault is tells which it is

  there_some : (n p : ℕ) → Possible s n p → 0 < urgency s n p
  unfolding urgency
  there_some n p h = omega arith

  there_one :
      (n p m q : ℕ) → Possible s n p → Possible s m q → urgency s n p ≡ urgency s m q → (n ≡ m) × (0 < n → p ≡ q)
  unfolding urgency
  there_one n p m q h k e = (omega arith, λ some. omega arith)

  pub same_fault : (f g : Fault) → f.number ≡ g.number → f.place ≡ g.place → f ≡ g
  same_fault f g e d =
      ap (λ (n : ℕ). record { number = n; place = f.place }) e ∙ ap (λ (p : ℕ). record { number = g.number; place = p }) d

  pub urgent_tells : (f g : Option Fault) → T (sound s f) → T (sound s g) → urgency_of s f ≡ urgency_of s g → f ≡ g
  urgent_tells None None a b e = refl
  urgent_tells None (Some g) a b e =
      absurd (omega (arith, none_urgent, there_urgent g, there_some g.number g.place (sound_is g b), e))
  urgent_tells (Some f) None a b e =
      absurd (omega (arith, none_urgent, there_urgent f, there_some f.number f.place (sound_is f a), e))
  urgent_tells (Some f) (Some g) a b e =
      let told : (f.number ≡ g.number) × (0 < f.number → f.place ≡ g.place) =
      there_one f.number f.place g.number g.place (sound_is f a) (sound_is g b) (sym (there_urgent f) ∙ (e ∙ there_urgent g)) in
      let some : Possible s f.number f.place = sound_is f a in
      ap Some (same_fault f g told.0 (told.1 (omega (arith, some.least))))

-- ---- the laws by themselves

pub sooner_urgent :
    (s : Source) (n p : ℕ) (f : Option Fault) → 24 ≤ n → n ≤ 26 → p ≤ length s.text → T (sound s f)
    → (urgency_of s (sooner n p f) ≡ max (urgency s n p) (urgency_of s f)) × T (sound s (sooner n p f))
sooner_urgent s n p f a b h k =
    let told : Tells s (sooner n p f) (max (urgency s n p) (urgency_of s f)) =
    sooner_tells s (record { least = a; most = b; within = h }) (sound_tells s f k) in
    (told.urgent, told.safe)

pub lowered_noted :
    (s : Source) (b : Bool) (p : ℕ) (f : Option Fault) → p ≤ length s.text → T (sound s f)
    → (urgency_of s (lowered b p f) ≡ noted s b p (urgency_of s f)) × T (sound s (lowered b p f))
lowered_noted s b p f h k =
    let told : Tells s (lowered b p f) (noted s b p (urgency_of s f)) = lowered_tells s b h (sound_tells s f k) in
    (told.urgent, told.safe)
