-- The productions of steps, paths and predicates keep the survey's promises.
-- Assumes nothing.
use Prim.Native.Nat.{ℕ, suc, max}
use mathlib.Core.Path.{◌≡◌, refl, sym, ◌∙◌, ap, ap₂, subst, subst⁻¹}
use mathlib.Core.Bool.{Bool, true, false, not, cond}
use mathlib.Core.List.{List, [], ◌∷◌}
use native.Mathlib.Nat.{max-zero, zero-max}
use lib.Dec.{T}
use Rattle.meaning.proofs.Bools.{is_true}
use Rattle.text.specs.declared.Sort.{Sort}
use Rattle.text.specs.declared.Sort.TheVariants.{Nodes, Unheld}
use Rattle.text.specs.declared.Level.{Level}
use Rattle.text.specs.Grammar.{Token, opening, closing, '[', ']', at, '::', NameTest, NodeType, 'processing_instruction', AxisName, Literal, '/', '//', unknown}
use Rattle.text.specs.Syntax.{Kind, Syntax, blank, part, begin}
use Rattle.text.specs.Syntax as K
use Rattle.text.specs.Machine.{Mode, operand, root, step, has, beginning, stepping, testing, ending, continuing, rows, pick, number, on, go, inner}
use Rattle.text.specs.Machine as M
use Rattle.text.specs.Limited.{Source, place, sort, own, fault}
use Rattle.text.specs.Survey.{urgency, worst, noted, end_faults, level_sort, Survey, survey, after, mode_after, mode_of, survey_token, begins, path_begun, joined_on, step_read, opening_read, closing_read, name_read, string_read, slash_read, bracket_read, fresh, left, sort_behind, fault_behind}
use Rattle.text.proofs.Machine.{each}
use Rattle.text.proofs.Surveying.Urgent.{max_again, maxima, mark, noted_mark, worst_in, worst_parts, worst_blank, leaf_finds, blank_finds, quiet_worst, quiet_finds, unheld_worst}
use Rattle.text.proofs.Surveying.Seen.{or_false, or_true, Low, low, Seen, behind}
use Rattle.text.proofs.Surveying.Promises.{Before, Whole, Wholly, Due, Operand, Exact, Exactly, Primary, Primarily, Walked, Walks, Specified, Specifies, Tested, Tests, Filters, Filtered, Predicated, Reads, read_so, read_two, read_three, before, whole, due, exact, primary, stepping_on, walked, specified, testing_on, tested, following, in_path, of_step_lem, of_operand, pathed, path_sort, Stepping, Testing, Following, InPath}

module _ (s : Source) where
  -- ---- steps

  -- a token of a step
  abbrev pub StepRead : List Mode → Token → Mode → Kind → Type 0
  StepRead ms t m' k =
      (m : Mode) (l : Level) (ls : List Level) (v : Sort) (n found i : ℕ) → T (has ms m)
      → survey_token s (survey m l ls v n found) i t
      ≡ survey m' (pathed m l) ls (path_sort m v) n (max (worst s (own s k t i blank blank)) found)

  pub step_read_lem :
      (ms : List Mode) (t : Token) (m' : Mode) (k : Kind)
      → ((y : Survey) (i : ℕ) → survey_token s y i t ≡ step_read (mode_after (mode_of y) t) (own s k t i blank blank) s y)
      → rows t ≡ on ms (go m') ∷ [] → StepRead ms t m' k
  unfolding step_read pick after
  step_read_lem ms t m' k reads_so row m l ls v n found i e = reads_so (survey m l ls v n found) i ∙ rw (row, is_true (has ms m) e)

  pub point :
      (k : Kind) (t : Token) → StepRead stepping t M.whole k → (g : Survey) (i : ℕ) → Stepping g
      → Walks s g (part k t i blank blank blank) (survey_token s g i t)
  unfolding has number
  point k t reads_so g i (stepping_on {m = m} {l = l} {ls = ls} {v = v} {n = n} {found = found} e h) =
      rw (reads_so m l ls v n found i e) (walked {m' = M.whole} tt (λ q. q) (leaf_finds s k t i found))

  pub with_at : (g : Survey) (i : ℕ) → Stepping g → Specifies s g (part K.attribute at i blank blank blank) (survey_token s g i at)
  unfolding has number survey_token own rows
  with_at g i (stepping_on {m = m} {l = l} {ls = ls} {v = v} {n = n} {found = found} e h) =
      rw (step_read_lem stepping at M.test K.attribute (λ y i. refl) refl m l ls v n found i e)
      (specified {m' = M.test} tt refl refl (leaf_finds s K.attribute at i found))

  pub with_axis_lem :
      (g : Survey) (i : ℕ) → Stepping g
      → Specifies s g (part K.axis AxisName i blank blank blank) (read_two s g i AxisName '::')
  unfolding has number survey_token own rows step_read pick after worst
  with_axis_lem g i (stepping_on {m = m} {l = l} {ls = ls} {v = v} {n = n} {found = found} e h) =
      subst⁻¹
      (λ (o : Survey). Specified s (pathed m l) ls (path_sort m v) found (part K.axis AxisName i blank blank blank) (survey_token s o (suc i) '::'))
      (step_read_lem stepping AxisName M.axis K.axis (λ y i. refl) refl m l ls v n found i e)
      (specified {m' = M.test} tt refl refl
      (zero-max (max (worst s (own s K.axis AxisName i blank blank)) found) ∙ leaf_finds s K.axis AxisName i found))

  stepping_tests : (m : Mode) → T (has stepping m) → T (has testing m)
  unfolding has number
  stepping_tests m e = each (λ m. T (has testing m)) stepping m (tt, (tt, (tt, (tt, (tt, tt))))) e

  pub without_axis : (g : Survey) (i : ℕ) → Stepping g → Specifies s g blank g
  without_axis g i (stepping_on {m = m} {found = found} e h) = specified (stepping_tests m e) refl refl (blank_finds s found)

  pub by_name : (g : Survey) (i : ℕ) → Testing g → Tests s g (part K.named NameTest i blank blank blank) (survey_token s g i NameTest)
  unfolding survey_token own rows
  by_name g i (testing_on {m = m} {l = l} {ls = ls} {v = v} {n = n} {found = found} e) =
      rw (step_read_lem testing NameTest M.part K.named (λ y i. refl) refl m l ls v n found i e)
      (tested (leaf_finds s K.named NameTest i found))

  pub by_type :
      (g : Survey) (i : ℕ) → Testing g
      → Tests s g (part K.typed NodeType i blank blank blank) (read_three s g i NodeType opening closing)
  unfolding survey_token own rows opening_read closing_read pick after has number
  by_type g i (testing_on {m = m} {l = l} {ls = ls} {v = v} {n = n} {found = found} e) =
      rw (step_read_lem testing NodeType M.type K.typed (λ y i. refl) refl m l ls v n found i e)
      (tested (leaf_finds s K.typed NodeType i found))

  instruction_read :
      (m : Mode) (l : Level) (ls : List Level) (v : Sort) (n found i : ℕ) → T (has testing m)
      → survey_token s (survey m l ls v n found) i 'processing_instruction'
      ≡ survey M.instruction (pathed m l) ls (path_sort m v) (place s i) (max 0 found)
  unfolding survey_token rows name_read step_read pick after worst
  instruction_read m l ls v n found i e = rw (is_true (has testing m) e)

  pub by_instruction :
      (g : Survey) (i : ℕ) → Testing g
      → Tests s g (part K.instruction 'processing_instruction' i blank blank blank)
      (read_three s g i 'processing_instruction' opening closing)
  unfolding survey_token own rows opening_read closing_read pick after has number worst
  by_instruction g i (testing_on {m = m} {l = l} {ls = ls} {v = v} {n = n} {found = found} e) =
      rw (instruction_read m l ls v n found i e) (tested (leaf_finds s K.instruction 'processing_instruction' i found))

  pub by_target :
      (g : Survey) (i : ℕ) → Testing g
      → Tests s g (part K.target 'processing_instruction' i blank blank blank)
      (survey_token s (read_three s g i 'processing_instruction' opening Literal) (suc (suc (suc i))) closing)
  unfolding survey_token own rows opening_read closing_read string_read pick after has number worst noted
  by_target g i (testing_on {m = m} {l = l} {ls = ls} {v = v} {n = n} {found = found} e) =
      rw (instruction_read m l ls v n found i e)
      (tested
      (ap₂ max (sym (max-zero (urgency s 26 (place s i)))) (zero-max found) ∙ leaf_finds s K.target 'processing_instruction' i found))

  -- a step's axis, test and predicates
  step_worst :
      (i : ℕ) (a t p : Syntax) (found : ℕ)
      → max (worst_in s p) (max (worst_in s t) (max (worst_in s a) found)) ≡ max (worst_in s (part K.step unknown i a t p)) found
  unfolding own worst
  step_worst i a t p found = rw worst_parts (simp maxima)

  continues : (m : Mode) → T (has (M.part ∷ []) m) → T (has continuing m)
  unfolding has number
  continues m e = each (λ m. T (has continuing m)) (M.part ∷ []) m (tt, tt) e

  step_filtered :
      {l : Level} {ls : List Level} {v : Sort} {found f1 f2 i : ℕ} {a t p : Syntax} {g3 : Survey} → f1 ≡ max (worst_in s a) found
      → f2 ≡ max (worst_in s t) f1 → Walked s (M.part ∷ []) l ls v f2 p g3
      → Walked s continuing l ls v found (part K.step unknown i a t p) g3
  step_filtered {found = found} {i = i} {a = a} {t = t} {p = p} c d (walked {m' = m'} e h f) =
      walked (continues m' e) h (f ∙ (ap (max (worst_in s p)) (d ∙ ap (max (worst_in s t)) c) ∙ step_worst i a t p found))

  abbrev StepTested : Level → List Level → Sort → ℕ → ℕ → Syntax → Syntax → Survey → Type 0
  StepTested l ls v found i a t o =
      InPath o × ((g3 : Survey) (n : ℕ) (p : Syntax) → Filters s o p g3 → Walked s continuing l ls v found (part K.step unknown i a t p) g3)

  step_tested :
      {l : Level} {ls : List Level} {v : Sort} {found f1 : ℕ} {a t : Syntax} {g2 : Survey} (i : ℕ) → l.inpath ≡ true
      → f1 ≡ max (worst_in s a) found → Tested s l ls v f1 t g2 → StepTested l ls v found i a t g2
  step_tested i h c (tested d) = (in_path h, (λ g3 n p w. step_filtered c d w))

  abbrev StepSpecified : Level → List Level → Sort → ℕ → ℕ → Syntax → Survey → Type 0
  StepSpecified l ls v found i a o =
      Testing o × ((g2 : Survey) (k : ℕ) (t : Syntax) → Tests s o t g2 → StepTested l ls v found i a t g2)

  step_specified :
      {l : Level} {ls : List Level} {v : Sort} {found : ℕ} {a : Syntax} {g1 : Survey} (i : ℕ) → l.inpath ≡ true
      → Specified s l ls v found a g1 → StepSpecified l ls v found i a g1
  step_specified {l = l} {ls = ls} {v = v} i h (specified {m' = m'} {l' = l'} {v' = v'} {n' = n'} {found' = found'} e q r c) =
      (testing_on e, (λ g2 k t w. step_tested i h c (rw (q, r) at w)))

  pub full_step :
      (g : Survey) (i : ℕ) → Stepping g
      → Stepping g
      × ((g1 : Survey) (j : ℕ) (a : Syntax) → Specifies s g a g1
      → Testing g1
      × ((g2 : Survey) (k : ℕ) (t : Syntax) → Tests s g1 t g2
      → InPath g2 × ((g3 : Survey) (n : ℕ) (p : Syntax) → Filters s g2 p g3 → Walks s g (part K.step unknown i a t p) g3)))
  full_step g i (stepping_on e h) = (stepping_on e h, (λ g1 j a w. step_specified i h w))

  -- ---- paths

  -- `/` or `//` behind an operand: a path goes on, or leads on from another operand
  abbrev pub LeadsOn : Token → Type 0
  LeadsOn t =
      Reads s continuing t
      (λ l ls v n found j.
      cond (not l.inpath) (survey step (path_begun (joined_on l)) ls v n (noted s true l.m found)) (survey step l ls v n found))

  pub slash_leads : LeadsOn '/'
  unfolding survey_token slash_read after pick rows has number
  slash_leads = read_so s continuing '/' _ ((λ l ls v n found i. refl), ((λ l ls v n found i. refl), tt))

  pub slashes_lead : LeadsOn '//'
  unfolding survey_token slash_read after pick rows has number
  slashes_lead = read_so s continuing '//' _ ((λ l ls v n found i. refl), ((λ l ls v n found i. refl), tt))

  goes_on :
      (t : Token) → LeadsOn t → (m : Mode) (l : Level) (ls : List Level) (v : Sort) (n found j : ℕ) → T (has continuing m)
      → l.inpath ≡ true → survey_token s (survey m l ls v n found) j t ≡ survey step l ls v n found
  goes_on t leads m l ls v n found j e h =
      leads m l ls v n found j e
      ∙ ap
      (λ (b : Bool).
      cond (not b) (survey step (path_begun (joined_on l)) ls v n (noted s true l.m found)) (survey step l ls v n found)) h

  chained :
      {l : Level} {ls : List Level} {v v' : Sort} {found f1 i : ℕ} {t : Token} {x y : Syntax} {g2 : Survey} → (v ≡ Nodes → v' ≡ Nodes)
      → f1 ≡ max (worst_in s x) found → Walked s continuing l ls v' f1 y g2
      → Walked s continuing l ls v found (part K.chain t i x blank y) g2
  unfolding own
  chained {found = found} {i = i} {t = t} {x = x} {y = y} h c (walked e k f) =
      walked e (λ q. k (h q)) (f ∙ (ap (max (worst_in s y)) c ∙ quiet_finds s K.chain t i x y refl found))

  abbrev Linked : Token → Level → List Level → Sort → ℕ → ℕ → Syntax → Survey → Type 0
  Linked t l ls v found i x o =
      Stepping o × ((g2 : Survey) (n : ℕ) (y : Syntax) → Walks s o y g2 → Walked s continuing l ls v found (part K.chain t i x blank y) g2)

  linked :
      {l : Level} {ls : List Level} {v : Sort} {found : ℕ} {x : Syntax} {g1 : Survey} (t : Token) → LeadsOn t → (i j : ℕ) → l.inpath ≡ true
      → Walked s continuing l ls v found x g1 → Linked t l ls v found i x (survey_token s g1 j t)
  unfolding has number
  linked {l = l} {ls = ls} t leads i j h (walked {m' = m'} {v' = v'} {n' = n'} {found' = found'} e k c) =
      rw (goes_on t leads m' l ls v' n' found' j e h) (stepping_on {m = step} tt h, (λ g2 n y w. chained k c w))

  pub next_step :
      (t : Token) → LeadsOn t → (g : Survey) (i : ℕ) → Stepping g
      → Stepping g
      × ((g1 : Survey) (j : ℕ) (x : Syntax) → Walks s g x g1
      → Stepping (survey_token s g1 j t)
      × ((g2 : Survey) (n : ℕ) (y : Syntax) → Walks s (survey_token s g1 j t) y g2 → Walks s g (part K.chain t i x blank y) g2))
  next_step t leads g i (stepping_on e h) = (stepping_on e h, (λ g1 j x w. linked t leads i j h w))

  begin_steps : (m : Mode) → T (has beginning m) → T (has stepping m)
  unfolding has number
  begin_steps m e = each (λ m. T (has stepping m)) beginning m (tt, (tt, (tt, tt))) e

  pathed_begun : (m : Mode) (l : Level) → T (has beginning m) → pathed m l ≡ path_begun l
  pathed_begun m l e = ap (λ (b : Bool). cond b (path_begun l) l) (is_true (has beginning m) e)

  sort_begun : (m : Mode) (v : Sort) → T (has beginning m) → path_sort m v ≡ Nodes
  sort_begun m v e = ap (λ (b : Bool). cond b Nodes v) (is_true (has beginning m) e)

  path_worst : (k : Kind) (t : Token) (i : ℕ) (x : Syntax) → own s k t i blank x ≡ [] → worst_in s (part k t i blank blank x) ≡ worst_in s x
  path_worst k t i x e = quiet_worst s k t i blank x e ∙ rw (worst_blank, zero-max)

  ends_so : (m : Mode) → T (has continuing m) → T (has ending m)
  unfolding has number
  ends_so m e = each (λ m. T (has ending m)) continuing m (tt, (tt, tt)) e

  -- a path, from the root or not, over its steps
  as_path_lem :
      {l : Level} {ls : List Level} {found i : ℕ} {x : Syntax} {g' : Survey} (k : Kind) (t : Token)
      → sort s (part k t i blank blank x) ≡ Nodes → own s k t i blank x ≡ [] → Walked s continuing (path_begun l) ls Nodes found x g'
      → Exact s l ls found i (part k t i blank blank x) g'
  unfolding begin
  as_path_lem {l = l} {found = found} {i = i} {x = x} k t q r (walked {m' = m'} {v' = v'} e h c) =
      exact {d = l.joined} {b = true} (ends_so m' e) false (sym (or_false l.joined))
      (record {
        sorted = q ∙ sym (h refl);
        begins_at = refl;
        marked = zero-max (worst_in s (part k t i blank blank x));
        finds = c ∙ ap (λ (w : ℕ). max w found) (sym (path_worst k t i x r));
      })

  pub location :
      (g : Survey) (i : ℕ) → Due s i g
      → Stepping g × ((g' : Survey) (j : ℕ) (x : Syntax) → Walks s g x g' → Exactly s g i (part K.relative unknown i blank blank x) g')
  unfolding sort own
  location g i (due {m = m} {l = l} {ls = ls} {v = v} {found = found} e h) = (
    stepping_on (begin_steps m e) (ap (λ (o : Level). o.inpath) (pathed_begun m l e)),
    (λ g' j x w. as_path_lem K.relative unknown refl refl (rw (pathed_begun m l e, sort_begun m v e) at w)),
  )

  pub slash_begins : Reads s beginning '/' (λ l ls v n found i. survey root (path_begun l) ls Nodes n found)
  unfolding survey_token slash_read after pick rows has number
  slash_begins = read_so s beginning '/' _ ((λ l ls v n found i. refl), ((λ l ls v n found i. refl), ((λ l ls v n found i. refl), tt)))

  pub slashes_begin : Reads s beginning '//' (λ l ls v n found i. survey step (path_begun l) ls Nodes n found)
  unfolding survey_token slash_read after pick rows has number
  slashes_begin = read_so s beginning '//' _ ((λ l ls v n found i. refl), ((λ l ls v n found i. refl), ((λ l ls v n found i. refl), tt)))

  pub root_alone : (g : Survey) (i : ℕ) → Due s i g → Exactly s g i (part K.absolute '/' i blank blank blank) (survey_token s g i '/')
  unfolding sort own begin has number
  root_alone g i (due {m = m} {l = l} {ls = ls} {v = v} {n = n} {found = found} e h) =
      rw (slash_begins m l ls v n found i e)
      (exact {m' = root} {d = l.joined} {b = true} {v' = Nodes} {n' = n} {found' = found} tt false (sym (or_false l.joined))
      (record {
        sorted = refl;
        begins_at = refl;
        marked = zero-max (worst_in s (part K.absolute '/' i blank blank blank));
        finds = blank_finds s found ∙ ap (λ (w : ℕ). max w found) (sym (path_worst K.absolute '/' i blank refl));
      }))

  pub from_root :
      (t : Token) (m' : Mode) → Reads s beginning t (λ l ls v n found i. survey m' (path_begun l) ls Nodes n found) → T (has stepping m')
      → begins m' ≡ false → (g : Survey) (i : ℕ) → Due s i g
      → Stepping (survey_token s g i t)
      × ((g' : Survey) (j : ℕ) (x : Syntax) → Walks s (survey_token s g i t) x g' → Exactly s g i (part K.absolute t i blank blank x) g')
  unfolding sort own
  from_root t m' reads_so steps inside g i (due {m = m} {l = l} {ls = ls} {v = v} {n = n} {found = found} e h) =
      rw (reads_so m l ls v n found i e) (
        stepping_on {m = m'} steps (ap (λ (b : Bool). (cond b (path_begun (path_begun l)) (path_begun l)).inpath) inside),
        (λ g' j x w. as_path_lem K.absolute t refl refl (rw inside at w)),
      )

  -- steps from another operand
  beyond_found : (p x y found : ℕ) → max y (noted s true p (max x found)) ≡ max (max (mark s true p) (max x y)) found
  beyond_found p x y found = rw noted_mark (simp maxima)

  -- what leads on from x to y, as an operand: its own fault is at its first byte
  beyond :
      {found i p : ℕ} {x y : Syntax} {v' : Sort} {f1 f2 : ℕ} (k : Kind) (t : Token) → own s k t i x y ≡ fault s 26 i
      → sort s (part k t i x blank y) ≡ Unheld → p ≡ place s i → f1 ≡ max (worst_in s x) found → f2 ≡ max (worst_in s y) (noted s true p f1)
      → Operand s found i (part k t i x blank y) true v' f2
  unfolding begin
  beyond {found = found} {i = i} {x = x} {y = y} k t q r h c u = record {
    sorted = r;
    begins_at = refl;
    marked = rw (unheld_worst s k t i x y q) (max_again (mark s true (place s i)) (max (worst_in s x) (worst_in s y)));
    finds = u ∙ rw (c, h, unheld_worst s k t i x y q) (beyond_found (place s i) (worst_in s x) (worst_in s y) found);
  }

  abbrev Onward : Token → Level → List Level → ℕ → ℕ → Syntax → Survey → Type 0
  Onward t l ls found i x o =
      Stepping o × ((g2 : Survey) (n : ℕ) (y : Syntax) → Walks s o y g2 → Exact s l ls found i (part K.onward t i x blank y) g2)

  led_on :
      {l : Level} {ls : List Level} {v : Sort} {found f1 i : ℕ} {t : Token} {x y : Syntax} {g2 : Survey} → l.m ≡ place s i
      → f1 ≡ max (worst_in s x) found → Walked s continuing (behind true true l.m l) ls v (noted s true l.m f1) y g2
      → Exact s l ls found i (part K.onward t i x blank y) g2
  unfolding own sort
  led_on {l = l} {t = t} h c (walked {m' = m'} e k f) =
      exact {d = true} {b = true} (ends_so m' e) true (sym (or_true l.joined)) (beyond K.onward t refl refl h c f)

  leading :
      {l : Level} {ls : List Level} {found i : ℕ} {x : Syntax} {g1 : Survey} (t : Token) → LeadsOn t → (j : ℕ) → l.m ≡ place s i
      → Primary s l ls found i x g1 → Onward t l ls found i x (survey_token s g1 j t)
  unfolding has number
  leading {l = l} {ls = ls} t leads j h (primary {d = d} {v' = v'} {n' = n'} {found' = found'} c q w) =
      rw (leads M.part (behind d false l.m l) ls v' n' found' j tt) (stepping_on {m = step} tt refl, (λ g2 n y u. led_on h w.finds u))

  pub leads_on :
      (t : Token) → LeadsOn t → (g : Survey) (i : ℕ) → Due s i g
      → Due s i g
      × ((g1 : Survey) (j : ℕ) (x : Syntax) → Primarily s g i x g1
      → Stepping (survey_token s g1 j t)
      × ((g2 : Survey) (n : ℕ) (y : Syntax) → Walks s (survey_token s g1 j t) y g2 → Exactly s g i (part K.onward t i x blank y) g2))
  leads_on t leads g i (due e h) = (due e h, (λ g1 j x w. leading t leads j h w))

  as_whole_path :
      {l : Level} {ls : List Level} {found i : ℕ} {x : Syntax} {g' : Survey} → Primary s l ls found i x g' → Exact s l ls found i x g'
  unfolding has number
  as_whole_path (primary c q w) = exact {m' = M.part} {b = false} tt c q w

  pub no_steps :
      (g : Survey) (i : ℕ) → Due s i g → Due s i g × ((g' : Survey) (j : ℕ) (x : Syntax) → Primarily s g i x g' → Exactly s g i x g')
  no_steps g i (due e h) = (due e h, (λ g' j x w. as_whole_path w))

  -- ---- brackets and predicates

  -- the state behind a bracket of this kind, whose sort is v, on the level o
  abbrev pub left_so : Level → List Level → ℕ → ℕ → Sort → ℕ → Survey
  left_so o ls n kind v found = survey M.part o ls (sort_behind kind 1 v) n (noted s (fault_behind kind 1 v) o.m found)

  -- it closes behind x
  pub closed :
      (kind p : ℕ) (o : Level) (ls : List Level) (found : ℕ) (x : Syntax) (m' : Mode) (l' : Level) (v' : Sort) (n' found' : ℕ)
      → Seen s 1 (fresh kind p) (sort s x) (max (worst_in s x) found) l' v' found'
      → left M.part 1 s (survey m' l' (o ∷ ls) v' n' found')
      ≡ left_so o ls n' kind (sort s x) (end_faults (noted s) (fresh kind p) (sort s x) (max (worst_in s x) found))
  unfolding left level_sort
  closed kind p o ls found x m' l' v' n' found' w =
      ap (λ (k : ℕ). left_so o ls n' k (level_sort l' v') (end_faults (noted s) l' v' found')) w.kinds
      ∙ (ap (λ (v : Sort). left_so o ls n' kind v (end_faults (noted s) l' v' found')) w.sorts ∙ ap (left_so o ls n' kind (sort s x)) w.ends)

  square_read_lem :
      (m : Mode) (l : Level) (ls : List Level) (v : Sort) (n found j : ℕ) → T (has ending m)
      → survey_token s (survey m l ls v n found) j ']' ≡ left M.part 1 s (survey m l ls v n found)
  unfolding survey_token left after pick rows has number
  square_read_lem m l [] v n found j e =
      each (λ m. survey_token s (survey m l [] v n found) j ']' ≡ left M.part 1 s (survey m l [] v n found)) ending m
      (refl, (refl, (refl, tt))) e
  square_read_lem m l (o ∷ ls) v n found j e =
      each (λ m. survey_token s (survey m l (o ∷ ls) v n found) j ']' ≡ left M.part 1 s (survey m l (o ∷ ls) v n found)) ending m
      (refl, (refl, (refl, tt))) e

  pub round_read :
      (m : Mode) (l o : Level) (ls : List Level) (v : Sort) (n found j : ℕ) → T (has ending m)
      → survey_token s (survey m l (o ∷ ls) v n found) j closing ≡ left M.part 1 s (survey m l (o ∷ ls) v n found)
  unfolding survey_token closing_read left after pick rows has number
  round_read m l o ls v n found j e =
      each (λ m. survey_token s (survey m l (o ∷ ls) v n found) j closing ≡ left M.part 1 s (survey m l (o ∷ ls) v n found)) ending m
      (refl, (refl, (refl, tt))) e

  step_closed :
      {l : Level} {ls : List Level} {found i p : ℕ} {x : Syntax} {g1 : Survey} (j : ℕ) → Whole s 1 (fresh 2 p) (l ∷ ls) found i x g1
      → Filtered s l ls found x true (survey_token s g1 j ']')
  unfolding sort_behind fault_behind end_faults noted
  step_closed {l = l} {ls = ls} {found = found} {p = p} {x = x} j (whole {m' = m'} {l' = l'} {v' = v'} {n' = n'} {found' = found'} e b w) =
      subst⁻¹ (Filtered s l ls found x true) (square_read_lem m' l' (l ∷ ls) v' n' found' j e ∙ closed 2 p l ls found x m' l' v' n' found' w)
      (of_step_lem refl)

  operand_closed :
      {l : Level} {ls : List Level} {found i p : ℕ} {x : Syntax} {g1 : Survey} (j : ℕ)
      → Whole s 1 (fresh 2 p) (joined_on l ∷ ls) (noted s true l.m found) i x g1
      → Filtered s l ls found x false (survey_token s g1 j ']')
  unfolding sort_behind fault_behind end_faults noted
  operand_closed {l = l} {ls = ls} {found = found} {p = p} {x = x} j (whole {m' = m'} {l' = l'} {v' = v'} {n' = n'} {found' = found'} e b w) =
      subst⁻¹ (Filtered s l ls found x false)
      (square_read_lem m' l' (joined_on l ∷ ls) v' n' found' j e ∙ closed 2 p (joined_on l) ls (noted s true l.m found) x m' l' v' n' found' w)
      (of_operand refl)

  abbrev Bracketed : Level → List Level → ℕ → ℕ → Bool → Survey → Type 0
  Bracketed l ls found i b o =
      Before s Low (suc i) o
      × ((g1 : Survey) (j : ℕ) (y : Syntax) → Wholly s 1 o (suc i) y g1 → Filtered s l ls found y b (survey_token s g1 j ']'))

  in_square :
      (l : Level) (ls : List Level) (v : Sort) (n found i : ℕ) (b : Bool)
      → Bracketed l ls found i b
      (cond b (survey operand (fresh 2 (place s (suc i))) (l ∷ ls) v n found)
      (survey operand (fresh 2 (place s (suc i))) (joined_on l ∷ ls) v n (noted s true l.m found)))
  unfolding has number
  in_square l ls v n found i true = (before {m = operand} tt low, (λ g1 j y w. step_closed j w))
  in_square l ls v n found i false = (before {m = operand} tt low, (λ g1 j y w. operand_closed j w))

  pub bracketed :
      (g : Survey) (i : ℕ) → Following g
      → Before s Low (suc i) (survey_token s g i '[')
      × ((g1 : Survey) (j : ℕ) (y : Syntax) → Wholly s 1 (survey_token s g i '[') (suc i) y g1 → Predicated s g y (survey_token s g1 j ']'))
  unfolding survey_token bracket_read after pick rows has number inner
  bracketed g i (following {l = l} {ls = ls} {v = v} {n = n} {found = found}) = in_square l ls v n found i l.inpath

  -- a step's predicates
  further :
      {l : Level} {ls : List Level} {v : Sort} {found f1 i : ℕ} {x y : Syntax} {g2 : Survey} → f1 ≡ max (worst_in s x) found
      → Walked s (M.part ∷ []) l ls Nodes f1 y g2 → Walked s (M.part ∷ []) l ls v found (part K.predicates unknown i x blank y) g2
  unfolding own
  further {found = found} {i = i} {x = x} {y = y} c (walked e k f) =
      walked e (λ q. k refl) (f ∙ (ap (max (worst_in s y)) c ∙ quiet_finds s K.predicates unknown i x y refl found))

  abbrev More : Level → List Level → Sort → ℕ → ℕ → Syntax → Survey → Type 0
  More l ls v found i x o =
      InPath o
      × ((g2 : Survey) (n : ℕ) (y : Syntax) → Filters s o y g2
      → Walked s (M.part ∷ []) l ls v found (part K.predicates unknown i x blank y) g2)

  one_more :
      {l : Level} {ls : List Level} {found : ℕ} {x : Syntax} {g1 : Survey} (v : Sort) (i : ℕ) → l.inpath ≡ true
      → Filtered s l ls found x true g1 → More l ls v found i x g1
  one_more v i h (of_step_lem c) = (in_path h, (λ g2 n y w. further c w))

  pub more :
      (g : Survey) (i : ℕ) → InPath g
      → Following g
      × ((g1 : Survey) (j : ℕ) (x : Syntax) → Predicated s g x g1
      → InPath g1 × ((g2 : Survey) (n : ℕ) (y : Syntax) → Filters s g1 y g2 → Filters s g (part K.predicates unknown i x blank y) g2))
  more g i (in_path {l = l} {ls = ls} {v = v} {found = found} h) =
      (following, (λ g1 j x w. one_more v i h (subst (λ (b : Bool). Filtered s l ls found x b g1) h w)))

  pub no_more : (g : Survey) (i : ℕ) → InPath g → Filters s g blank g
  unfolding has number
  no_more g i (in_path {found = found} h) = walked {m' = M.part} tt (λ q. q) (blank_finds s found)

  -- a predicate of another operand
  filtered_on :
      {l : Level} {ls : List Level} {found i : ℕ} {x y : Syntax} {d : Bool} {f1 : ℕ} {g2 : Survey} → l.m ≡ place s i
      → f1 ≡ max (worst_in s x) found → Filtered s (behind d false l.m l) ls f1 y false g2
      → Primary s l ls found i (part K.filter unknown i x blank y) g2
  unfolding own sort
  filtered_on {l = l} h c (of_operand f) =
      primary {d = true} {v' = Nodes} true (sym (or_true l.joined)) (beyond K.filter unknown refl refl h c f)

  filtered_by :
      {l : Level} {ls : List Level} {found i : ℕ} {x : Syntax} {g1 : Survey} → l.m ≡ place s i → Primary s l ls found i x g1
      → Following g1 × ((g2 : Survey) (n : ℕ) (y : Syntax) → Predicated s g1 y g2
      → Primary s l ls found i (part K.filter unknown i x blank y) g2)
  filtered_by h (primary c q w) = (following, (λ g2 n y u. filtered_on h w.finds u))

  pub filtered :
      (g : Survey) (i : ℕ) → Due s i g
      → Due s i g
      × ((g1 : Survey) (j : ℕ) (x : Syntax) → Primarily s g i x g1
      → Following g1 × ((g2 : Survey) (n : ℕ) (y : Syntax) → Predicated s g1 y g2 → Primarily s g i (part K.filter unknown i x blank y) g2))
  filtered g i (due e h) = (due e h, (λ g1 j x w. filtered_by h w))
