-- The productions of primary expressions and calls keep the survey's promises.
-- Assumes nothing.
use Rattle.text.specs.declared.Function.{Function}
use Rattle.text.specs.declared.Function.TheVariants.{PositionCall, LastCall, CountCall, NotCall, BooleanCall, OtherCall}
use Prim.Native.Nat.{ℕ, zero, suc, ◌+◌, ◌-◌, ◌≤◌, ◌<◌, max}
use mathlib.Core.Path.{◌≡◌, refl, sym, ◌∙◌, ap, ap₂, subst⁻¹}
use mathlib.Core.Bool.{Bool, true, false, ◌&&◌, ◌||◌, not, cond}
use mathlib.Core.List.{List, ◌∷◌}
use native.Mathlib.Omega.{arith}
use native.Mathlib.Nat.{max-zero, zero-max}
use lib.Dec.{T}
use borrow.Author.Tests.{ne_eqb, le-leb}
use Rattle.meaning.proofs.Bools.{is_true}
use Rattle.names.specs.Names.{position}
use Rattle.text.specs.declared.Sort.{Sort}
use Rattle.text.specs.declared.Sort.TheVariants.{Numeral, Unheld}
use Rattle.text.specs.declared.Level.{Level}
use Rattle.text.specs.Grammar.{Token, opening, closing, comma, FunctionName, Literal, Number, VariableReference, unknown}
use Rattle.text.specs.Syntax.{Kind, Syntax, blank, part, begin}
use Rattle.text.specs.Syntax as K
use Rattle.text.specs.Machine.{Mode, operand, argument, has, beginning, ending, rows, pick, number, inner}
use Rattle.text.specs.Machine as M
use Rattle.text.specs.Limited.{Source, place, sort, own, fault, is_path, path_taken, word_of, function_names, function_of, holds_call, result_of, is_held_call, call_sort, arity, argument_faults}
use Rattle.text.specs.Survey.{urgency, worst, noted, end_faults, level_sort, Survey, survey, after, survey_token, opening_read, closing_read, name_read, string_read, comma_read, fresh, left, sort_behind, fault_behind, other_begun, operand_read, function_at, wants_path}
use Rattle.text.proofs.Machine.{each}
use Rattle.text.proofs.Surveying.Urgent.{max_assoc, max_again, maxima, mark, noted_mark, worst_in, worst_parts, worst_blank, worst_one, as_a_path, leaf_worst, leaf_finds, quiet_worst}
use Rattle.text.proofs.Surveying.Seen.{or_false, and_true, Low, low}
use Rattle.text.proofs.Surveying.Promises.{Before, Whole, Wholly, Due, Primary, Primarily, Arguing, Argued, Argues, Reads, read_so, read_two, read_three, before, whole, due, primary, arguing, single, several}
use Rattle.text.proofs.Surveying.Paths.{left_so, closed, round_read}

module _ (s : Source) where
  -- ---- primary expressions

  -- an operand that is no path and leads on from nothing
  plainly :
      {l : Level} {ls : List Level} {found i n' found' : ℕ} {x : Syntax} (v' : Sort) → sort s x ≡ v' → begin x ≡ i
      → found' ≡ max (worst_in s x) found → Primary s l ls found i x (survey M.part (other_begun l) ls v' n' found')
  plainly {l = l} {x = x} v' q b c =
      primary {d = l.joined} {v' = v'} false (sym (or_false l.joined))
      (record { sorted = q; begins_at = b; marked = zero-max (worst_in s x); finds = c })

  -- a token that is an operand
  abbrev pub OperandRead : Kind → Token → Sort → Type 0
  OperandRead k t v' =
      Reads s beginning t (λ l ls v n found i. survey M.part (other_begun l) ls v' n (max (worst s (own s k t i blank blank)) found))

  pub number_read : OperandRead K.number Number Numeral
  unfolding survey_token operand_read after pick rows own
  number_read m l ls v n found i e = rw (is_true (has beginning m) e)

  pub variable_read : OperandRead K.variable VariableReference Unheld
  unfolding survey_token operand_read after pick rows own
  variable_read m l ls v n found i e = rw (is_true (has beginning m) e)

  pub string_read_lem : OperandRead K.string Literal Unheld
  unfolding survey_token string_read after pick rows own has number noted worst
  string_read_lem m l ls v n found i e =
      read_so s beginning Literal (λ l ls v n found i. survey M.part (other_begun l) ls Unheld n (max (urgency s 26 (place s i)) found))
      ((λ l ls v n found i. refl), ((λ l ls v n found i. refl), ((λ l ls v n found i. refl), tt))) m l ls v n found i e
      ∙ ap (λ (w : ℕ). survey M.part (other_begun l) ls Unheld n (max w found)) (sym (max-zero (urgency s 26 (place s i))))

  pub one_token :
      (k : Kind) (t : Token) (v' : Sort) → OperandRead k t v' → ((i : ℕ) → sort s (part k t i blank blank blank) ≡ v')
      → (g : Survey) (i : ℕ) → Due s i g → Primarily s g i (part k t i blank blank blank) (survey_token s g i t)
  unfolding begin
  one_token k t v' reads_so q g i (due {m = m} {l = l} {ls = ls} {v = v} {n = n} {found = found} e h) =
      rw (reads_so m l ls v n found i e) (plainly v' (q i) refl (leaf_finds s k t i found))

  opening_read_lem : Reads s beginning opening (λ l ls v n found i. survey operand (fresh 1 (place s (suc i))) (other_begun l ∷ ls) v n found)
  unfolding survey_token opening_read after pick rows has number inner
  opening_read_lem = read_so s beginning opening _ ((λ l ls v n found i. refl), ((λ l ls v n found i. refl), ((λ l ls v n found i. refl), tt)))

  group_finds :
      (i p : ℕ) (y : Syntax) (found : ℕ) → p ≡ place s i
      → noted s (is_path (sort s y)) p (max (worst_in s y) found) ≡ max (worst_in s (part K.group opening i blank blank y)) found
  unfolding own
  group_finds i p y found h = rw (noted_mark, h, worst_parts, worst_blank, worst_one s (is_path (sort s y)) i) (simp maxima)

  group_closed :
      {l : Level} {ls : List Level} {found i p : ℕ} {y : Syntax} {g1 : Survey} (j : ℕ) → l.m ≡ place s i
      → Whole s 1 (fresh 1 p) (other_begun l ∷ ls) found (suc i) y g1
      → Primary s l ls found i (part K.group opening i blank blank y) (survey_token s g1 j closing)
  unfolding sort begin sort_behind fault_behind end_faults noted
  group_closed {l = l} {ls = ls} {found = found} {i = i} {p = p} {y = y} j h (whole {m' = m'} {l' = l'} {v' = v'} {n' = n'} {found' = f'} e b w) =
      subst⁻¹ (Primary s l ls found i (part K.group opening i blank blank y))
      (round_read s m' l' (other_begun l) ls v' n' f' j e ∙ closed s 1 p (other_begun l) ls found y m' l' v' n' f' w)
      (plainly (sort s y) refl refl (group_finds i l.m y found h))

  pub in_brackets :
      (g : Survey) (i : ℕ) → Due s i g
      → Before s Low (suc i) (survey_token s g i opening)
      × ((g1 : Survey) (j : ℕ) (y : Syntax) → Wholly s 1 (survey_token s g i opening) (suc i) y g1
      → Primarily s g i (part K.group opening i blank blank y) (survey_token s g1 j closing))
  unfolding has number
  in_brackets g i (due {m = m} {l = l} {ls = ls} {v = v} {n = n} {found = found} e h) =
      rw (opening_read_lem m l ls v n found i e) (before {m = operand} tt low, (λ g1 j y w. group_closed j h w))

  -- ---- calls

  -- the number of the function that token i names
  abbrev called : ℕ → ℕ
  called i = position function_names (word_of s i)

  -- behind the level of a call
  four_more : (f : ℕ) → (4 + f) - 4 ≡ f
  four_more f = omega arith

  call_sort_lem : (f n : ℕ) (v : Sort) → sort_behind (4 + f) n v ≡ cond (holds_call (function_at f) n) (result_of (function_at f)) Unheld
  unfolding sort_behind
  call_sort_lem f n v =
      rw (ne_eqb (4 + f) 1 (λ e. omega arith), ne_eqb (4 + f) 2 (λ e. omega arith), four_more f)

  call_fault : (f n : ℕ) (v : Sort) → fault_behind (4 + f) n v ≡ not (holds_call (function_at f) n)
  unfolding fault_behind
  call_fault f n v = rw (ne_eqb (4 + f) 1 (λ e. omega arith), le-leb 4 (4 + f) (omega arith), four_more f)

  call_read_lem :
      (m : Mode) (l : Level) (ls : List Level) (v : Sort) (n found i : ℕ) → T (has beginning m)
      → read_two s (survey m l ls v n found) i FunctionName opening
      ≡ survey argument (fresh (4 + called i) (place s (suc (suc i)))) (other_begun l ∷ ls) v (called i) found
  unfolding survey_token name_read opening_read after pick rows has number inner
  call_read_lem m l ls v n found i e =
      each
      (λ m.
      read_two s (survey m l ls v n found) i FunctionName opening
      ≡ survey argument (fresh (4 + called i) (place s (suc (suc i)))) (other_begun l ∷ ls) v (called i) found)
      beginning m (refl, (refl, (refl, tt))) e

  empty_worst :
      (f : Function) (i : ℕ)
      → worst s (cond (holds_call f 0) (argument_faults s f blank) (fault s 26 i)) ≡ mark s (not (holds_call f 0)) (place s i)
  unfolding holds_call argument_faults worst
  empty_worst PositionCall i = refl
  empty_worst LastCall i = refl
  empty_worst CountCall i = max-zero (urgency s 26 (place s i))
  empty_worst NotCall i = max-zero (urgency s 26 (place s i))
  empty_worst BooleanCall i = max-zero (urgency s 26 (place s i))
  empty_worst OtherCall i = max-zero (urgency s 26 (place s i))

  empty_finds :
      (i p : ℕ) (v : Sort) (found : ℕ) → p ≡ place s i
      → noted s (fault_behind (4 + called i) 0 v) p found ≡ max (worst_in s (part K.call FunctionName i blank blank blank)) found
  unfolding own function_of arity
  empty_finds i p v found h = rw (call_fault (called i) 0 v, noted_mark, h, leaf_worst s, empty_worst)

  empty_sort : (i : ℕ) (v : Sort) → sort s (part K.call FunctionName i blank blank blank) ≡ sort_behind (4 + called i) 0 v
  unfolding sort call_sort function_of arity
  empty_sort i v = sym (call_sort_lem (called i) 0 v)

  empty_closed :
      (l : Level) (ls : List Level) (v : Sort) (n found i p : ℕ) → l.m ≡ place s i
      → Primary s l ls found i (part K.call FunctionName i blank blank blank)
      (survey_token s (survey argument (fresh (4 + called i) p) (other_begun l ∷ ls) v n found) (suc (suc i)) closing)
  unfolding survey_token closing_read left after pick rows has number begin
  empty_closed l ls v n found i p h =
      plainly (sort_behind (4 + called i) 0 (level_sort (fresh (4 + called i) p) v)) (empty_sort i (level_sort (fresh (4 + called i) p) v)) refl
      (empty_finds i l.m (level_sort (fresh (4 + called i) p) v) found h)

  pub empty_call :
      (g : Survey) (i : ℕ) → Due s i g
      → Primarily s g i (part K.call FunctionName i blank blank blank) (read_three s g i FunctionName opening closing)
  empty_call g i (due {m = m} {l = l} {ls = ls} {v = v} {n = n} {found = found} e h) =
      subst⁻¹
      (λ (o : Survey). Primary s l ls found i (part K.call FunctionName i blank blank blank) (survey_token s o (suc (suc i)) closing))
      (call_read_lem m l ls v n found i e) (empty_closed l ls v (called i) found i (place s (suc (suc i))) h)

  -- one argument
  arguments_worst : (i : ℕ) (x y : Syntax) → worst_in s (part K.arguments unknown i x blank y) ≡ max (worst_in s x) (worst_in s y)
  unfolding own
  arguments_worst i x y = quiet_worst s K.arguments unknown i x y refl

  first_argued :
      {kind : ℕ} {o : Level} {ls : List Level} {found i : ℕ} {x : Syntax} {g' : Survey}
      → Whole s 1 (fresh kind (place s i)) (o ∷ ls) found i x g'
      → Argued s kind o ls found i (part K.arguments unknown i blank blank x) g'
  unfolding arity begin sort
  first_argued {i = i} {x = x} (whole {l' = l'} {v' = v'} {found' = found'} e b w) =
      single {l' = l'} {v' = v'} {found' = found'} e refl refl (rw (arguments_worst i blank x, worst_blank, zero-max) w)

  one_argued :
      (i : ℕ) (g : Survey) → Arguing s i g
      → Before s Low i g
      × ((g' : Survey) (j : ℕ) (x : Syntax) → Wholly s 1 g i x g' → Argues s g i (part K.arguments unknown i blank blank x) g')
  one_argued i g (arguing e h) = (before e low, (λ g' j x w. first_argued w))

  pub one_argument :
      (g : Survey) (i : ℕ) → Arguing s i g
      → Before s Low i g
      × ((g' : Survey) (j : ℕ) (x : Syntax) → Wholly s 1 g i x g' → Argues s g i (part K.arguments unknown i blank blank x) g')
  one_argument g i a = one_argued i g a

  -- several: the fault of the call is before all that its arguments show
  urgency_falls : (n p q : ℕ) → p ≤ q → urgency s n q ≤ urgency s n p
  unfolding urgency
  urgency_falls n p q h = omega arith

  absorbed : (b : Bool) (p q x : ℕ) → p ≤ q → max (mark s true p) (max (mark s b q) x) ≡ max (mark s true p) x
  absorbed true p q x h =
      let less : urgency s 26 q ≤ urgency s 26 p = urgency_falls 26 p q h in
      omega arith
  absorbed false p q x h = ap (max (mark s true p)) (zero-max x)

  pub fresh_ends :
      (kind p : ℕ) (v : Sort) (found : ℕ)
      → end_faults (noted s) (fresh kind p) v found ≡ max (mark s (wants_path (fresh kind p) && not (path_taken v)) p) found
  unfolding end_faults noted
  fresh_ends kind p v found =
      rw (and_true (wants_path (fresh kind p))) (noted_mark s (wants_path (fresh kind p) && not (path_taken v)) p found)

  comma_read_lem :
      (m : Mode) (l o : Level) (ls : List Level) (v : Sort) (n found j : ℕ) → T (has ending m)
      → survey_token s (survey m l (o ∷ ls) v n found) j comma
      ≡ survey operand (fresh 9 (place s (suc j))) (o ∷ ls) v n (noted s true o.m (end_faults (noted s) l v found))
  unfolding survey_token comma_read after pick rows has number
  comma_read_lem m l o ls v n found j e =
      each
      (λ m.
      survey_token s (survey m l (o ∷ ls) v n found) j comma
      ≡ survey operand (fresh 9 (place s (suc j))) (o ∷ ls) v n (noted s true o.m (end_faults (noted s) l v found)))
      ending m (refl, (refl, (refl, tt))) e

  -- what is found behind a comma
  parted :
      (p q x found e : ℕ) (b : Bool) → p ≤ q → e ≡ max (mark s b q) (max x found) → noted s true p e ≡ max (mark s true p) (max x found)
  parted p q x found e b h c = noted_mark s true p e ∙ (ap (max (mark s true p)) c ∙ absorbed b p q (max x found) h)

  arguments_find :
      (p q i : ℕ) (v : Sort) (x y : Syntax) (found : ℕ)
      → end_faults (noted s) (fresh 9 q) v (max (worst_in s y) (max (mark s true p) (max (worst_in s x) found)))
      ≡ max (mark s true p) (max (worst_in s (part K.arguments unknown i x blank y)) found)
  unfolding end_faults noted
  arguments_find p q i v x y found = rw arguments_worst (simp maxima)

  further_argued :
      {kind : ℕ} {o : Level} {ls : List Level} {found i q j : ℕ} {x y : Syntax} {g2 : Survey} → 1 ≤ arity x
      → Whole s 1 (fresh 9 q) (o ∷ ls) (max (mark s true o.m) (max (worst_in s x) found)) j y g2
      → Argued s kind o ls found i (part K.arguments unknown i x blank y) g2
  unfolding arity
  further_argued {o = o} {found = found} {i = i} {q = q} {x = x} {y = y} h (whole {l' = l'} {v' = v'} {found' = found'} e b w) =
      several {l' = l'} {v' = v'} {found' = found'} e (omega arith) w.kinds (w.ends ∙ arguments_find o.m q i (sort s y) x y found)

  abbrev Another : ℕ → Level → List Level → ℕ → ℕ → ℕ → Syntax → Survey → Type 0
  Another kind o ls found i j x g1 =
      Before s Low (suc j) g1
      × ((g2 : Survey) (n : ℕ) (y : Syntax) → Wholly s 1 g1 (suc j) y g2
      → Argued s kind o ls found i (part K.arguments unknown i x blank y) g2)

  next_argument :
      {kind : ℕ} {o : Level} {ls : List Level} {found i : ℕ} {x : Syntax} (j : ℕ) (m' : Mode) (l' : Level) (v' : Sort) (n' found' : ℕ)
      → T (has ending m') → 1 ≤ arity x
      → noted s true o.m (end_faults (noted s) l' v' found') ≡ max (mark s true o.m) (max (worst_in s x) found)
      → Another kind o ls found i j x (survey_token s (survey m' l' (o ∷ ls) v' n' found') j comma)
  unfolding has number
  next_argument {kind} {o} {ls} {found} {i} {x} j m' l' v' n' found' e a c =
      subst⁻¹ (Another kind o ls found i j x)
      (comma_read_lem m' l' o ls v' n' found' j e ∙ ap (λ (f : ℕ). survey operand (fresh 9 (place s (suc j))) (o ∷ ls) v' n' f) c)
      (before {m = operand} tt low, (λ g2 n y u. further_argued a u))

  after_arguments :
      {kind : ℕ} {o : Level} {ls : List Level} {found i : ℕ} {x : Syntax} {g1 : Survey} (j : ℕ) → o.m ≤ place s i
      → Argued s kind o ls found i x g1 → Another kind o ls found i j x (survey_token s g1 j comma)
  after_arguments {kind = kind} {o = o} {found = found} {i = i} {x = x} j h (single {m' = m'} {l' = l'} {v' = v'} {n' = n'} {found' = f'} e a b w) =
      next_argument j m' l' v' n' f' e (omega arith)
      (parted o.m (place s i) (worst_in s x) found (end_faults (noted s) l' v' f')
      (wants_path (fresh kind (place s i)) && not (path_taken (sort s x))) h
      (w.ends ∙ fresh_ends kind (place s i) (sort s x) (max (worst_in s x) found)))
  after_arguments {o = o} {found = found} {x = x} j h (several {m' = m'} {l' = l'} {v' = v'} {n' = n'} {found' = found'} e a b c) =
      next_argument j m' l' v' n' found' e (omega arith)
      (parted o.m o.m (worst_in s x) found (end_faults (noted s) l' v' found') true (omega arith) c)

  another_argued :
      (i : ℕ) (g : Survey) → Arguing s i g
      → Arguing s i g
      × ((g1 : Survey) (j : ℕ) (x : Syntax) → Argues s g i x g1
      → Before s Low (suc j) (survey_token s g1 j comma)
      × ((g2 : Survey) (n : ℕ) (y : Syntax) → Wholly s 1 (survey_token s g1 j comma) (suc j) y g2
      → Argues s g i (part K.arguments unknown i x blank y) g2))
  another_argued i g (arguing e h) = (arguing e h, (λ g1 j x w. after_arguments j h w))

  pub another_argument :
      (g : Survey) (i : ℕ) → Arguing s i g
      → Arguing s i g
      × ((g1 : Survey) (j : ℕ) (x : Syntax) → Argues s g i x g1
      → Before s Low (suc j) (survey_token s g1 j comma)
      × ((g2 : Survey) (n : ℕ) (y : Syntax) → Wholly s 1 (survey_token s g1 j comma) (suc j) y g2
      → Argues s g i (part K.arguments unknown i x blank y) g2))
  another_argument g i a = another_argued i g a

  -- a call of one argument: its own fault, or its argument's
  own_mark : (i p found : ℕ) → p ≡ place s i → max (urgency s 26 p) (max 0 found) ≡ max (max (urgency s 26 (place s i)) 0) found
  own_mark i p found h = rw (h, zero-max found, max-zero (urgency s 26 (place s i)))

  call_marks :
      (f i p q : ℕ) (y : Syntax) (found : ℕ) → p ≡ place s i → begin y ≡ q
      → noted s (not (holds_call (function_at f) 1)) p
      (max (mark s (wants_path (fresh (4 + f) (place s q)) && not (path_taken (sort s y))) (place s q)) found)
      ≡ max (worst s (cond (holds_call (function_at f) 1) (argument_faults s (function_at f) y) (fault s 26 i))) found
  unfolding holds_call argument_faults noted worst
  call_marks zero i p q y found h b = own_mark i p found h
  call_marks (suc zero) i p q y found h b = own_mark i p found h
  call_marks (suc (suc zero)) i p q y found h b = ap (λ (w : ℕ). max w found) (sym (rw (← b) (as_a_path s y)))
  call_marks (suc (suc (suc zero))) i p q y found h b = refl
  call_marks (suc (suc (suc (suc zero)))) i p q y found h b = refl
  call_marks (suc (suc (suc (suc (suc f))))) i p q y found h b =
      ap (λ (c : Bool). max (urgency s 26 p) (max (mark s (c && not (path_taken (sort s y))) (place s q)) found))
      (ap₂ ◌||◌ (ne_eqb (4 + suc (suc (suc (suc (suc f))))) 0 (λ e. omega arith))
      (ne_eqb (4 + suc (suc (suc (suc (suc f))))) 6 (λ e. omega arith)))
      ∙ own_mark i p found h

  call_worst :
      (i : ℕ) (y : Syntax)
      → worst_in s (part K.call FunctionName i blank blank y)
      ≡ max (worst s (cond (is_held_call s i y) (argument_faults s (function_of (word_of s i)) y) (fault s 26 i))) (worst_in s y)
  unfolding own
  call_worst i y = worst_parts s K.call FunctionName i blank blank y ∙ rw (worst_blank, zero-max (worst_in s y), zero-max (worst_in s y))

  single_finds :
      (i p q : ℕ) (y : Syntax) (found : ℕ) → p ≡ place s i → begin y ≡ q → arity y ≡ 1
      → noted s (fault_behind (4 + called i) 1 (sort s y)) p
      (end_faults (noted s) (fresh (4 + called i) (place s q)) (sort s y) (max (worst_in s y) found))
      ≡ max (worst_in s (part K.call FunctionName i blank blank y)) found
  unfolding function_of
  single_finds i p q y found h b a =
      let ends = fresh_ends (4 + called i) (place s q) (sort s y) (max (worst_in s y) found) in
      rw (call_fault (called i) 1 (sort s y), ends, call_worst i y, a, max_assoc)
      (call_marks (called i) i p q y (max (worst_in s y) found) h b)

  single_sort :
      (i : ℕ) (y : Syntax) → arity y ≡ 1
      → sort s (part K.call FunctionName i blank blank y) ≡ sort_behind (4 + called i) 1 (sort s y)
  unfolding sort call_sort function_of
  single_sort i y a = rw (a, call_sort_lem (called i) 1 (sort s y))

  holds_few : (f : Function) (n : ℕ) → 2 ≤ n → holds_call f n ≡ false
  unfolding holds_call
  holds_few PositionCall n h = ne_eqb n 0 (λ e. omega arith)
  holds_few LastCall n h = ne_eqb n 0 (λ e. omega arith)
  holds_few CountCall n h = ne_eqb n 1 (λ e. omega arith)
  holds_few NotCall n h = ne_eqb n 1 (λ e. omega arith)
  holds_few BooleanCall n h = ne_eqb n 1 (λ e. omega arith)
  holds_few OtherCall n h = refl

  several_finds :
      (i p : ℕ) (y : Syntax) (found e : ℕ) → p ≡ place s i → 2 ≤ arity y → e ≡ max (mark s true p) (max (worst_in s y) found)
      → noted s true p e ≡ max (worst_in s (part K.call FunctionName i blank blank y)) found
  unfolding worst
  several_finds i p y found e h a c =
      let refused = holds_few (function_of (word_of s i)) (arity y) a in
      rw (c, noted_mark, h, call_worst i y, refused, max-zero (urgency s 26 (place s i)), max_again, max_assoc)

  several_sort : (i : ℕ) (y : Syntax) → 2 ≤ arity y → sort s (part K.call FunctionName i blank blank y) ≡ Unheld
  unfolding sort call_sort
  several_sort i y a = rw (holds_few (function_of (word_of s i)) (arity y) a)

  closed_several :
      (o : Level) (ls : List Level) (m' : Mode) (l' : Level) (v' : Sort) (n' found' : ℕ) → l'.kind ≡ 9
      → left M.part 1 s (survey m' l' (o ∷ ls) v' n' found') ≡ survey M.part o ls Unheld n' (noted s true o.m (end_faults (noted s) l' v' found'))
  unfolding left sort_behind fault_behind holds_call
  closed_several o ls m' l' v' n' found' h =
      ap (λ (k : ℕ). left_so s o ls n' k (level_sort l' v') (end_faults (noted s) l' v' found')) h

  call_closed :
      {l : Level} {ls : List Level} {found i q : ℕ} {y : Syntax} {g1 : Survey} (j : ℕ) → l.m ≡ place s i
      → Argued s (4 + called i) (other_begun l) ls found q y g1
      → Primary s l ls found i (part K.call FunctionName i blank blank y) (survey_token s g1 j closing)
  unfolding begin
  call_closed {l = l} {ls = ls} {found = found} {i = i} {q = q} {y = y} j h (single {m' = m'} {l' = l'} {v' = v'} {n' = n'} {found' = f'} e a b w) =
      subst⁻¹ (Primary s l ls found i (part K.call FunctionName i blank blank y))
      (round_read s m' l' (other_begun l) ls v' n' f' j e
      ∙ closed s (4 + called i) (place s q) (other_begun l) ls found y m' l' v' n' f' w)
      (plainly (sort_behind (4 + called i) 1 (sort s y)) (single_sort i y a) refl (single_finds i l.m q y found h b a))
  call_closed {l = l} {ls = ls} {found = found} {i = i} {y = y} j h (several {m' = m'} {l' = l'} {v' = v'} {n' = n'} {found' = f'} e a k c) =
      subst⁻¹ (Primary s l ls found i (part K.call FunctionName i blank blank y))
      (round_read s m' l' (other_begun l) ls v' n' f' j e ∙ closed_several (other_begun l) ls m' l' v' n' f' k)
      (plainly Unheld (several_sort i y a) refl (several_finds i l.m y found (end_faults (noted s) l' v' f') h a c))

  pub full_call :
      ((i j : ℕ) → i < j → place s i < place s j) → (g : Survey) (i : ℕ) → Due s i g
      → Arguing s (suc (suc i)) (read_two s g i FunctionName opening)
      × ((g1 : Survey) (j : ℕ) (y : Syntax) → Argues s (read_two s g i FunctionName opening) (suc (suc i)) y g1
      → Primarily s g i (part K.call FunctionName i blank blank y) (survey_token s g1 j closing))
  unfolding has number
  full_call ascends g i (due {m = m} {l = l} {ls = ls} {v = v} {n = n} {found = found} e h) =
      let later : place s i < place s (suc (suc i)) = ascends i (suc (suc i)) (omega arith) in
      let before-them : l.m ≤ place s (suc (suc i)) = omega arith in
      rw (call_read_lem m l ls v n found i e) (arguing {m = argument} tt before-them, (λ g1 j y w. call_closed j h w))
