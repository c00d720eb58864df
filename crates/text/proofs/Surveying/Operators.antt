-- The productions of operators, signs and unions keep the survey's promises.
-- Assumes nothing.
use Prim.Native.Nat.{ℕ, suc, ◌≤◌, max}
use mathlib.Core.Path.{◌≡◌, refl, ◌∙◌, ap, ap₂}
use mathlib.Core.Bool.{Bool, true, false, not, cond, true≢false}
use mathlib.Core.List.{List, [], ◌∷◌, ◌++◌}
use native.Mathlib.Omega.{arith}
use native.Mathlib.Nat.{zero-max}
use lib.Dec.{T, leb}
use Rattle.meaning.proofs.Bools.{is_true}
use Rattle.text.specs.declared.Sort.{Sort}
use Rattle.text.specs.declared.Sort.TheVariants.{Numeral, Truth}
use Rattle.text.specs.declared.Level.{Level}
use Rattle.text.specs.Grammar.{Token, '|', '-', 'and', 'or'}
use Rattle.text.specs.Syntax.{Syntax, blank, part, begin}
use Rattle.text.specs.Syntax as K
use Rattle.text.specs.Machine.{Mode, operand, union, has, beginning, signing, ending, rows, pick, number, on, go}
use Rattle.text.specs.Growing.{tightness}
use Rattle.text.specs.Limited.{Source, place, sort, operator_sort, number_taken, as_number, own}
use Rattle.text.specs.Survey.{worst, noted, operated, operator_faults, sign_faults, Survey, survey, after, mode_after, mode_of, survey_token, operator_read, minus_read, bar_read, union_at}
use Rattle.text.proofs.Machine.{each}
use Rattle.text.proofs.Surveying.Urgent.{max_again, maxima, mark, worst_append, worst_in, worst_parts, worst_blank, as_number_lem, unheld_worst}
use Rattle.text.proofs.Surveying.Seen.{Low, low, Middle, alone, compared, High, rank_none, rank_number, rank_truth, seen_less, seen_through, operand_marks, Joined, or_joined, and_joined, equality_joined, relational_joined, sum_joined, product_joined, sign_joined, behind, operand_seen}
use Rattle.text.proofs.Surveying.Promises.{Before, Whole, Wholly, Due, Operand, Exact, Exactly, United, Unitedly, Reads, read_so, before, whole, due, exact, united}

module _ (s : Source) where
  -- ---- operators

  -- the operator is read behind an operand
  abbrev pub Operates : ℕ → Token → Type 0
  Operates k op =
      Reads s ending op (λ l ls v n found j. survey operand (operated k (place s (suc j)) l) ls v n (operator_faults (noted s) k l v found))

  operands_worst :
      (b : Bool) (x y : Syntax)
      → worst s (cond b (as_number s x ++ as_number s y) [])
      ≡ cond b (operand_marks s (sort s x) (sort s y) (place s (begin x)) (place s (begin y))) 0
  unfolding worst
  operands_worst true x y = worst_append s (as_number s x) (as_number s y) ∙ ap₂ max (as_number_lem s x) (as_number_lem s y)
  operands_worst false x y = refl

  binary_worst :
      (k : ℕ) (op : Token) → tightness op ≡ k → (i j : ℕ) (x y : Syntax) → begin x ≡ i → begin y ≡ j
      → worst_in s (part K.binary op i x blank y)
      ≡ max (cond (leb 3 k) (operand_marks s (sort s x) (sort s y) (place s i) (place s j)) 0) (max (worst_in s x) (worst_in s y))
  unfolding own
  binary_worst k op t i j x y bx by =
      worst_parts s K.binary op i x blank y
      ∙ rw (worst_blank, zero-max, operands_worst (leb 3 (tightness op)) x y, t, bx, by)

  binary_sort :
      (k : ℕ) (op : Token) → tightness op ≡ k → (i : ℕ) (x y : Syntax)
      → sort s (part K.binary op i x blank y) ≡ cond (leb 5 k) Numeral Truth
  unfolding sort operator_sort
  binary_sort k op t i x y = ap (λ (n : ℕ). cond (leb 5 n) Numeral Truth) t

  weaker :
      {k m : ℕ} {l : Level} {ls : List Level} {found i : ℕ} {x : Syntax} {g' : Survey} → k ≤ m → Whole s m l ls found i x g'
      → Whole s k l ls found i x g'
  weaker h (whole e b w) = whole e b (seen_less h w)

  pub lift :
      (k m : ℕ) (At Then : ℕ → Level → Type 0) → k ≤ m → ((p : ℕ) (l : Level) → At p l → Then p l) → (g : Survey) (i : ℕ) → Before s At i g
      → Before s Then i g × ((g' : Survey) (j : ℕ) (x : Syntax) → Wholly s m g i x g' → Wholly s k g i x g')
  lift k m At Then h to g i (before {l = l} e a) = (before e (to (place s i) l a), (λ g' j x w. weaker h w))

  -- an operator that binds as strongly as k, its second operand as strongly as m
  pub record Operator (k m : ℕ) (At Then : ℕ → Level → Type 0) (op : Token) : Type 0 where
    pub tight : tightness op ≡ k
    pub stronger : k ≤ m
    pub operates : Operates k op
    pub second : (p q : ℕ) (l : Level) → At p l → Then q (operated k q l)
    pub joined : Joined s k At

  joined_by :
      {k m : ℕ} {At Then : ℕ → Level → Type 0} {op : Token} {l : Level} {ls : List Level} {found i j : ℕ} {x y : Syntax} {g2 : Survey}
      → Operator k m At Then op → At (place s i) l → begin x ≡ i
      → Whole s m (operated k (place s j) l) ls (operator_faults (noted s) k l (sort s x) (max (worst_in s x) found)) j y g2
      → Whole s k l ls found i (part K.binary op i x blank y) g2
  unfolding begin
  joined_by {k = k} {op = op} {l = l} {found = found} {i = i} {j = j} {x = x} {y = y} o a b (whole {l' = l'} {v' = v'} {found' = f'} e c w) =
      whole {l' = l'} {v' = v'} {found' = f'} e refl
      (rw (binary_sort k op o.tight i x y, binary_worst k op o.tight i j x y b c)
      (seen_through (o.joined (place s i) (place s j) l a (sort s x) (sort s y) (worst_in s x) (worst_in s y) found)
      (seen_less o.stronger w)))

  abbrev Between : ℕ → ℕ → (ℕ → Level → Type 0) → Token → Level → List Level → ℕ → ℕ → ℕ → Syntax → Survey → Type 0
  Between k m Then op l ls found i j x o =
      Before s Then (suc j) o
      × ((g2 : Survey) (n : ℕ) (y : Syntax) → Wholly s m o (suc j) y g2 → Whole s k l ls found i (part K.binary op i x blank y) g2)

  between :
      {k m : ℕ} {At Then : ℕ → Level → Type 0} {op : Token} {l : Level} {ls : List Level} {found i : ℕ} {x : Syntax} {g1 : Survey}
      → Operator k m At Then op → At (place s i) l → (j : ℕ) → Whole s k l ls found i x g1
      → Between k m Then op l ls found i j x (survey_token s g1 j op)
  unfolding has number
  between {k = k} {l = l} {ls = ls} {i = i} o a j (whole {m' = m'} {l' = l'} {v' = v'} {n' = n'} {found' = found'} e b w) =
      rw (o.operates m' l' ls v' n' found' j e, w.moves k (place s (suc j)) (omega arith), w.shows k (omega arith))
      (before {m = operand} tt (o.second (place s i) (place s (suc j)) l a), (λ g2 n y u. joined_by o a b u))

  pub joins :
      {k m : ℕ} {At Then : ℕ → Level → Type 0} {op : Token} → Operator k m At Then op → (g : Survey) (i : ℕ) → Before s At i g
      → Before s At i g
      × ((g1 : Survey) (j : ℕ) (x : Syntax) → Wholly s k g i x g1
      → Before s Then (suc j) (survey_token s g1 j op)
      × ((g2 : Survey) (n : ℕ) (y : Syntax) → Wholly s m (survey_token s g1 j op) (suc j) y g2
      → Wholly s k g i (part K.binary op i x blank y) g2))
  joins o g i (before e a) = (before e a, (λ g1 j x w. between o a j w))

  -- an operator whose row is `ending`
  pub by_row :
      (k : ℕ) (op : Token) → ((y : Survey) (i : ℕ) → survey_token s y i op ≡ operator_read (mode_after (mode_of y) op) k (place s (suc i)) s y)
      → rows op ≡ on ending (go operand) ∷ [] → Operates k op
  unfolding operator_read pick after
  by_row k op reads_so row m l ls v n found j e = reads_so (survey m l ls v n found) j ∙ rw (row, is_true (has ending m) e)

  pub minus_operates : Operates 5 '-'
  unfolding survey_token minus_read after pick rows has number
  minus_operates = read_so s ending '-' _ ((λ l ls v n found i. refl), ((λ l ls v n found i. refl), ((λ l ls v n found i. refl), tt)))

  -- the level behind an operator is right for its second operand
  low_after : (k : ℕ) → leb k 2 ≡ true → (p q : ℕ) (l : Level) → Low p l → Low q (operated k q l)
  unfolding operated
  low_after k h p q l low = rw h low

  middle_after : (p q : ℕ) (l : Level) → Low p l → Middle q (operated 3 q l)
  unfolding operated
  middle_after p q l low = compared

  high_after : (p q : ℕ) (l : Level) → Middle p l → High q (operated 4 q l)
  unfolding operated
  high_after p q l alone = rank_truth
  high_after p q l compared = rank_truth

  high_operated : (p q : ℕ) (l : Level) → High p l → High q (operated 5 q l)
  unfolding operated
  high_operated p q l rank_none = rank_number
  high_operated p q l rank_number = rank_number
  high_operated p q l rank_truth = rank_truth

  -- the operators, by how strongly they bind
  pub or_so : Operator 1 2 Low Low 'or'
  unfolding tightness survey_token rows
  or_so = record {
    tight = refl;
    stronger = omega arith;
    operates = by_row 1 'or' (λ y i. refl) refl;
    second = low_after 1 refl;
    joined = or_joined s;
  }

  pub and_so : Operator 2 3 Low Low 'and'
  unfolding tightness survey_token rows
  and_so = record {
    tight = refl;
    stronger = omega arith;
    operates = by_row 2 'and' (λ y i. refl) refl;
    second = low_after 2 refl;
    joined = and_joined s;
  }

  pub equal : (op : Token) → tightness op ≡ 3 → Operates 3 op → Operator 3 4 Low Middle op
  equal op t o = record { tight = t; stronger = omega arith; operates = o; second = middle_after; joined = equality_joined s }

  pub compare : (op : Token) → tightness op ≡ 4 → Operates 4 op → Operator 4 5 Middle High op
  compare op t o = record { tight = t; stronger = omega arith; operates = o; second = high_after; joined = relational_joined s }

  pub add : (op : Token) → tightness op ≡ 5 → Operates 5 op → Operator 5 6 High High op
  add op t o = record { tight = t; stronger = omega arith; operates = o; second = high_operated; joined = sum_joined s }

  pub multiply : (op : Token) → tightness op ≡ 6 → Operates 6 op → Operator 6 7 High High op
  unfolding operated
  multiply op t o = record { tight = t; stronger = omega arith; operates = o; second = high_operated; joined = product_joined s }

  -- ---- signs

  negative_worst :
      (i j : ℕ) (x : Syntax) → begin x ≡ j
      → worst_in s (part K.negative '-' i blank blank x) ≡ max (mark s (not (number_taken (sort s x))) (place s j)) (worst_in s x)
  unfolding own
  negative_worst i j x b =
      worst_parts s K.negative '-' i blank blank x
      ∙ rw (worst_blank, zero-max (max 0 (worst_in s x)), zero-max (worst_in s x), as_number_lem s x, b)

  sign_read : Reads s signing '-' (λ l ls v n found i. survey operand (operated 5 (place s (suc i)) l) ls v n (sign_faults (noted s) l found))
  unfolding survey_token minus_read after pick rows has number
  sign_read = read_so s signing '-' _ ((λ l ls v n found i. refl), ((λ l ls v n found i. refl), tt))

  signed :
      {l : Level} {ls : List Level} {found i : ℕ} {x : Syntax} {g' : Survey} → High (place s i) l
      → Whole s 7 (operated 5 (place s (suc i)) l) ls (sign_faults (noted s) l found) (suc i) x g'
      → Whole s 7 l ls found i (part K.negative '-' i blank blank x) g'
  unfolding begin sort
  signed {l = l} {found = found} {i = i} {x = x} h (whole {l' = l'} {v' = v'} {found' = found'} e b w) =
      whole {l' = l'} {v' = v'} {found' = found'} e refl
      (rw (negative_worst i (suc i) x b) (seen_through (sign_joined s (place s i) (place s (suc i)) l h (sort s x) (worst_in s x) found) w))

  pub signs :
      (g : Survey) (i : ℕ) → Before s High i g
      → Before s High (suc i) (survey_token s g i '-')
      × ((g' : Survey) (j : ℕ) (x : Syntax) → Wholly s 7 (survey_token s g i '-') (suc i) x g'
      → Wholly s 7 g i (part K.negative '-' i blank blank x) g')
  unfolding has number
  signs g i (before {m = m} {l = l} {ls = ls} {v = v} {n = n} {found = found} e h) =
      rw (sign_read m l ls v n found i e)
      (before {m = operand} tt (high_operated (place s i) (place s (suc i)) l h), (λ g' j x w. signed h w))

  -- ---- unions

  high_at : {p : ℕ} {l : Level} → High p l → l.m ≡ p
  high_at rank_none = refl
  high_at rank_number = refl
  high_at rank_truth = refl

  high_free : {p : ℕ} {l : Level} → High p l → l.joined ≡ false
  high_free rank_none = refl
  high_free rank_number = refl
  high_free rank_truth = refl

  signing_begins : (m : Mode) → T (has signing m) → T (has beginning m)
  unfolding has number
  signing_begins m e = each (λ m. T (has beginning m)) signing m (tt, (tt, tt)) e

  as_united :
      {l : Level} {ls : List Level} {found i : ℕ} {x : Syntax} {g' : Survey} → High (place s i) l → Exact s l ls found i x g'
      → United s l ls found i x g'
  as_united {l = l} {i = i} h (exact {m' = m'} {b = b} {v' = v'} {n' = n'} {found' = found'} e c d w) =
      rw (d, high_free h) (united {c = c} {b = b} {r = l.m} {v' = v'} {n' = n'} {found' = found'} e (λ q. high_at h) w)

  pub one_part :
      (g : Survey) (i : ℕ) → Before s High i g → Due s i g × ((g' : Survey) (j : ℕ) (x : Syntax) → Exactly s g i x g' → Unitedly s g i x g')
  one_part g i (before {m = m} e h) = (due (signing_begins m e) (high_at h), (λ g' j x w. as_united h w))

  bar_read_lem :
      Reads s ending '|' (λ l ls v n found j. survey union (union_at (place s (suc j)) l) ls v n (noted s (not l.joined) l.m found))
  unfolding survey_token bar_read after pick rows has number
  bar_read_lem = read_so s ending '|' _ ((λ l ls v n found i. refl), ((λ l ls v n found i. refl), ((λ l ls v n found i. refl), tt)))

  union_worst :
      (i : ℕ) (x y : Syntax) → worst_in s (part K.union '|' i x blank y) ≡ max (mark s true (place s i)) (max (worst_in s x) (worst_in s y))
  unfolding own
  union_worst i x y = unheld_worst s K.union '|' i x y refl

  -- a union's own fault is noted at its first `|`, or was noted with its first part
  union_found :
      (c : Bool) (p r x y found : ℕ) → (c ≡ false → r ≡ p) → max (mark s c p) x ≡ x
      → max y (noted s (not c) r (max x found)) ≡ max (max (mark s true p) (max x y)) found
  unfolding noted
  union_found true p r x y found h e = rw (← e) (simp maxima)
  union_found false p r x y found h e = rw (h refl) (simp maxima)

  union_operand :
      {found i : ℕ} {x y : Syntax} {c : Bool} {r : ℕ} {v' v'' : Sort} {f1 f2 : ℕ} → (c ≡ false → r ≡ place s i)
      → Operand s found i x c v' f1 → f2 ≡ max (worst_in s y) (noted s (not c) r f1)
      → Operand s found i (part K.union '|' i x blank y) true v'' f2
  unfolding begin sort
  union_operand {found = found} {i = i} {x = x} {y = y} {c = c} {r = r} h w u = record {
    sorted = refl;
    begins_at = refl;
    marked = rw union_worst (max_again (mark s true (place s i)) (max (worst_in s x) (worst_in s y)));
    finds = u ∙ rw (w.finds, union_worst) (union_found c (place s i) r (worst_in s x) (worst_in s y) found h w.marked);
  }

  next_united :
      {l : Level} {ls : List Level} {found i j : ℕ} {x y : Syntax} {c : Bool} {r : ℕ} {v' : Sort} {found' : ℕ} {g2 : Survey}
      → (c ≡ false → r ≡ place s i) → Operand s found i x c v' found'
      → Exact s (behind true false (place s j) l) ls (noted s (not c) r found') j y g2
      → United s l ls found i (part K.union '|' i x blank y) g2
  next_united {j = j} h w (exact {b = b} {v' = v'} {n' = n'} {found' = found'} e c d u) =
      rw d
      (united {c = true} {b = b} {r = place s j} {v' = v'} {n' = n'} {found' = found'} e (λ q. absurd (true≢false q))
      (union_operand h w u.finds))

  abbrev Barred : Level → List Level → ℕ → ℕ → ℕ → Syntax → Survey → Type 0
  Barred l ls found i j x o =
      Due s (suc j) o
      × ((g2 : Survey) (n : ℕ) (y : Syntax) → Exactly s o (suc j) y g2 → United s l ls found i (part K.union '|' i x blank y) g2)

  barred :
      {l : Level} {ls : List Level} {found i : ℕ} {x : Syntax} {g1 : Survey} → (j : ℕ) → United s l ls found i x g1
      → Barred l ls found i j x (survey_token s g1 j '|')
  unfolding has number
  barred {l = l} {ls = ls} j (united {m' = m'} {c = c} {b = b} {r = r} {v' = v'} {n' = n'} {found' = found'} e h w) =
      rw (bar_read_lem m' (behind c b r l) ls v' n' found' j e) (due {m = union} tt refl, (λ g2 n y u. next_united h w u))

  pub next_part :
      (g : Survey) (i : ℕ) → Before s High i g
      → Before s High i g
      × ((g1 : Survey) (j : ℕ) (x : Syntax) → Unitedly s g i x g1
      → Due s (suc j) (survey_token s g1 j '|')
      × ((g2 : Survey) (n : ℕ) (y : Syntax) → Exactly s (survey_token s g1 j '|') (suc j) y g2
      → Unitedly s g i (part K.union '|' i x blank y) g2))
  next_part g i (before e h) = (before e h, (λ g1 j x w. barred j w))

  -- a union is an operand for all operators
  as_operand :
      {l : Level} {ls : List Level} {found i : ℕ} {x : Syntax} {g' : Survey} → High (place s i) l → United s l ls found i x g'
      → Whole s 7 l ls found i x g'
  as_operand {l = l} {found = found} {i = i} {x = x} h (united {c = c} {b = b} {r = r} {v' = v'} {found' = found'} e k w) =
      whole {l' = behind c b r l} {v' = v'} {found' = found'} e w.begins_at
      (rw (w.sorted, w.finds) (operand_seen s 7 (place s i) l h c b r v' (max (worst_in s x) found) k))

  pub no_sign :
      (g : Survey) (i : ℕ) → Before s High i g
      → Before s High i g × ((g' : Survey) (j : ℕ) (x : Syntax) → Unitedly s g i x g' → Wholly s 7 g i x g')
  no_sign g i (before e h) = (before e h, (λ g' j x w. as_operand h w))
