-- What the machine accepts is a text of the grammar. What was read since the innermost open bracket is kept as what the grammar makes of it,
-- whatever comes (`At`); each row of the table keeps that, and so does each bracket that is opened or closed.
-- Assumes nothing.
use mathlib.Core.Path.{◌≡◌, refl, sym, ◌∙◌, ap, subst}
use mathlib.Core.Bool.{Bool, true, false, cond}
use mathlib.Core.List.{List, [], ◌∷◌, ◌++◌, append_assoc, append-nil, nil≢cons, tail-eq_of_cons-eq}
use lib.Dec.{T}
use Rattle.text.specs.Grammar.{Token, opening, closing, '[', ']', dot, dots, at, comma, '::', NameTest, NodeType, 'processing_instruction', FunctionName, AxisName, Literal, Number, VariableReference, '/', '//', '|', '+', '-', '=', '!=', '<', '<=', '>', '>=', MultiplyOperator, 'and', 'or', 'div', 'mod', unknown}
use Rattle.text.specs.Grammar.{Symbol, RelativeLocationPath, Step, AxisSpecifier, NodeTest, Predicates, Expr, PrimaryExpr, Arguments, UnionExpr, PathExpr, FilterExpr, OrExpr, productions, first, later, none, token, Sentence}
use Rattle.text.specs.Machine.{inner, Mode, operand, argument, union, root, step, axis, test, type, empty, instruction, target, call, whole, part, beginning, signing, stepping, testing, ending, continuing, Bracket, group, arguments, predicate, Act, go, enter, leave_round, leave_square, next_argument, Row, on, rows, has, pick, State, stuck, reading, done, next, run, start, accepting, accepts}
use Rattle.text.proofs.Machine.{Each, each}
use Rattle.text.proofs.Levels.{Is, cast, make, front, Binary, or, and, equality, relational, additive, multiplicative, joined, negated, whole_union, filtered}

-- ---- what the tokens a of a level are good for, where the level is to be an N

-- any expression completes it
abbrev Left : Symbol → List Token → Type 0
Left N a = (e : List Token) → Is OrExpr e → Is N (a ++ e)

-- it ends with a union
abbrev Ended : Symbol → List Token → Type 0
Ended N a = (b u : List Token) × (a ≡ b ++ u) × Left N b × Is UnionExpr u

abbrev PathAt : Symbol → List Token → Type 0
PathAt N a = (p : List Token) → Is PathExpr p → Ended N (a ++ p)

abbrev StepsAt : Symbol → List Token → Type 0
StepsAt N a = (r : List Token) → Is RelativeLocationPath r → Ended N (a ++ r)

abbrev StepsEnd : Symbol → List Token → Type 0
StepsEnd N a = (h r : List Token) × (a ≡ h ++ r) × StepsAt N h × Is RelativeLocationPath r

abbrev StepAt : Symbol → List Token → Type 0
StepAt N a = (s : List Token) → Is Step s → StepsEnd N (a ++ s)

abbrev Whole : Symbol → List Token → Type 0
Whole N a = Ended N a × StepAt N (a ++ ('/' ∷ [])) × StepAt N (a ++ ('//' ∷ []))

abbrev Part : Symbol → List Token → Type 0
Part N a = (ps : List Token) → Is Predicates ps → Whole N (a ++ ps)

abbrev TestAt : Symbol → List Token → Type 0
TestAt N a = (n : List Token) → Is NodeTest n → Part N (a ++ n)

abbrev At : Symbol → Mode → List Token → Type 0
At N operand a = Left N a
At N argument a = Left N a × (a ≡ []) × (N ≡ Arguments)
At N union a = PathAt N a
At N root a = Ended N a × StepAt N a
At N step a = StepAt N a
At N axis a = TestAt N (a ++ ('::' ∷ []))
At N test a = TestAt N a
At N type a = Part N (a ++ (opening ∷ closing ∷ []))
At N empty a = Part N (a ++ (closing ∷ []))
At N instruction a = Part N (a ++ (opening ∷ closing ∷ [])) × Part N (a ++ (opening ∷ Literal ∷ closing ∷ []))
At N target a = Part N (a ++ (closing ∷ [])) × Part N (a ++ (Literal ∷ closing ∷ []))
At N call a =
    Part N (a ++ (opening ∷ closing ∷ [])) × ((xs : List Token) → Is Arguments xs → Part N (a ++ (opening ∷ (xs ++ (closing ∷ [])))))
At N whole a = Whole N a
At N part a = Part N a

-- ---- from one to the next

module _ (N : Symbol) (a : List Token) where
  path_after_left : Left N a → PathAt N a
  unfolding productions
  path_after_left l p d = (a, p, refl, l, make first d)

  ended_is : (l : (b u : List Token) × (a ≡ b ++ u) × Left N b × Is UnionExpr u) → Is N a
  ended_is (b, u, e, l, d) = cast (sym e) (l u (whole_union d))

  left_after_operator : (t : Token) → Binary t → Ended N a → Left N (a ++ (t ∷ []))
  left_after_operator t o h x d =
      let (b, u, e, l, f) = h in
      cast (sym (append_assoc a (t ∷ []) x ∙ (ap (λ z. z ++ (t ∷ x)) e ∙ append_assoc b u (t ∷ x)))) (l (u ++ (t ∷ x)) (joined o u x (whole_union f) d))

  left_after_minus : Left N a → Left N (a ++ ('-' ∷ []))
  left_after_minus l x d = cast (sym (append_assoc a ('-' ∷ []) x)) (l ('-' ∷ x) (negated x d))

  path_after_bar : Ended N a → PathAt N (a ++ ('|' ∷ []))
  unfolding productions
  path_after_bar h p d =
      let (b, u, e, l, f) = h in
      (b, u ++ ('|' ∷ p), append_assoc a ('|' ∷ []) p ∙ (ap (λ z. z ++ ('|' ∷ p)) e ∙ append_assoc b u ('|' ∷ p)), l, make (later first) (front f (token d)))

  step_after_path : PathAt N a → StepAt N a
  unfolding productions
  step_after_path h s d = (a, s, refl, (λ r e. h r (make first (make first e))), make first d)

  root_after_path : PathAt N a → At N root (a ++ ('/' ∷ []))
  unfolding productions
  root_after_path h = (
    h ('/' ∷ []) (make first (make (later first) (make first (token none)))),
    (λ s d. (
      a ++ ('/' ∷ []),
      s,
      refl,
      (λ r e. subst (λ z. Ended N z) (sym (append_assoc a ('/' ∷ []) r)) (h ('/' ∷ r) (make first (make (later first) (make (later first) (token e)))))),
      make first d,
    )),
  )

  step_after_slashes : PathAt N a → StepAt N (a ++ ('//' ∷ []))
  unfolding productions
  step_after_slashes h s d = (
    a ++ ('//' ∷ []),
    s,
    refl,
    (λ r e. subst (λ z. Ended N z) (sym (append_assoc a ('//' ∷ []) r)) (h ('//' ∷ r) (make first (make (later first) (make (later (later first)) (make first (token e))))))),
    make first d,
  )

  whole_after_steps : StepsEnd N a → Whole N a
  unfolding productions
  whole_after_steps h =
      let (b, r, e, steps, d) = h in (
        subst (λ z. Ended N z) (sym e) (steps r d),
        (λ s f. (b, r ++ ('/' ∷ s), append_assoc a ('/' ∷ []) s ∙ (ap (λ z. z ++ ('/' ∷ s)) e ∙ append_assoc b r ('/' ∷ s)), steps, make (later first) (front d (token f)))),
        (λ s f. (b, r ++ ('//' ∷ s), append_assoc a ('//' ∷ []) s ∙ (ap (λ z. z ++ ('//' ∷ s)) e ∙ append_assoc b r ('//' ∷ s)), steps, make (later (later first)) (make first (front d (token f))))),
      )

  whole_after_filter : (f : List Token) → PathAt N a → Is FilterExpr f → Whole N (a ++ f)
  unfolding productions
  whole_after_filter f h d = (
    h f (make (later first) d),
    (λ s g. (
      (a ++ f) ++ ('/' ∷ []),
      s,
      refl,
      (λ r e. subst (λ z. Ended N z) (sym (append_assoc (a ++ f) ('/' ∷ []) r ∙ append_assoc a f ('/' ∷ r))) (h (f ++ ('/' ∷ r)) (make (later (later first)) (front d (token e))))),
      make first g,
    )),
    (λ s g. (
      (a ++ f) ++ ('//' ∷ []),
      s,
      refl,
      (λ r e. subst (λ z. Ended N z) (sym (append_assoc (a ++ f) ('//' ∷ []) r ∙ append_assoc a f ('//' ∷ r))) (h (f ++ ('//' ∷ r)) (make (later (later (later first))) (front d (token e))))),
      make first g,
    )),
  )

  part_after_primary : (f : List Token) → PathAt N a → Is PrimaryExpr f → Part N (a ++ f)
  unfolding productions
  part_after_primary f h d ps e = subst (λ z. Whole N z) (sym (append_assoc a f ps)) (whole_after_filter (f ++ ps) h (filtered (make first d) e))

module _ (N : Symbol) (a : List Token) where
  -- a step ends here
  whole_after_step : (s : List Token) → StepAt N a → Is Step s → Whole N (a ++ s)
  whole_after_step s h d = whole_after_steps N (a ++ s) (h s d)

  test_after_axis : (x : List Token) → StepAt N a → Is AxisSpecifier x → TestAt N (a ++ x)
  unfolding productions
  test_after_axis x h d n e ps f =
      subst (λ z. Whole N z) (sym (append_assoc (a ++ x) n ps ∙ append_assoc a x (n ++ ps))) (whole_after_step (x ++ (n ++ ps)) h (make first (front d (front e f))))

  test_after_nothing : StepAt N a → TestAt N a
  unfolding productions
  test_after_nothing h n e ps f =
      subst (λ z. Whole N z) (sym (append_assoc a n ps)) (whole_after_step (n ++ ps) h (make first (front {x = []} (make (later first) (make (later first) none)) (front e f))))

  part_after_predicate : (e : List Token) → Part N a → Is Expr e → Part N (a ++ ('[' ∷ (e ++ (']' ∷ []))))
  unfolding productions
  part_after_predicate e h d ps f =
      let b : List Token = '[' ∷ (e ++ (']' ∷ [])) in
      subst (λ z. Whole N z) (sym (append_assoc a b ps)) (h (b ++ ps) (make (later first) (front (make first (token (front (make first d) (token none)))) f)))

  part_after_group : (e : List Token) → PathAt N a → Is Expr e → Part N (a ++ (opening ∷ (e ++ (closing ∷ []))))
  unfolding productions
  part_after_group e h d = part_after_primary N a (opening ∷ (e ++ (closing ∷ []))) h (make (later first) (token (front d (token none))))

  arguments_after_comma : Is Arguments a → Left Arguments (a ++ (comma ∷ []))
  unfolding productions
  arguments_after_comma d e f = cast (sym (append_assoc a (comma ∷ []) e)) (make (later first) (front d (token (make first (make first f)))))

-- one token more
more : (N : Symbol) (a : List Token) (t : Token) (x : List Token) → Part N (a ++ (t ∷ x)) → Part N ((a ++ (t ∷ [])) ++ x)
more N a t x h = subst (λ z. Part N z) (sym (append_assoc a (t ∷ []) x)) h

-- ---- the modes

begun : Each (λ m. (N : Symbol) (a : List Token) → At N m a → PathAt N a) beginning
begun = ((λ N a h. path_after_left N a h), ((λ N a h. path_after_left N a h.0), ((λ N a h. h), tt)))

stepped : Each (λ m. (N : Symbol) (a : List Token) → At N m a → StepAt N a) stepping
stepped = (
  (λ N a h. step_after_path N a (path_after_left N a h)),
  ((λ N a h. step_after_path N a (path_after_left N a h.0)), ((λ N a h. step_after_path N a h), ((λ N a h. h.1), ((λ N a h. h), tt)))),
)

tested : Each (λ m. (N : Symbol) (a : List Token) → At N m a → TestAt N a) testing
tested = (
  (λ N a h. test_after_nothing N a (stepped.0 N a h)),
  (
    (λ N a h. test_after_nothing N a (stepped.1.0 N a h)),
    (
      (λ N a h. test_after_nothing N a (stepped.1.1.0 N a h)),
      ((λ N a h. test_after_nothing N a h.1), ((λ N a h. test_after_nothing N a h), ((λ N a h. h), tt))),
    ),
  ),
)

bare : (N : Symbol) (a : List Token) → Part N a → Whole N a
unfolding productions
bare N a h = subst (λ z. Whole N z) (append-nil a) (h [] (make first none))

ended : Each (λ m. (N : Symbol) (a : List Token) → At N m a → Ended N a) ending
ended = ((λ N a h. h.0), ((λ N a h. h.0), ((λ N a h. (bare N a h).0), tt)))

signed : Each (λ m. (N : Symbol) (a : List Token) → At N m a → Left N a) signing
signed = ((λ N a h. h), ((λ N a h. h.0), tt))

continued : Each (λ m. (N : Symbol) (a : List Token) → At N m a → Whole N a) continuing
continued = ((λ N a h. h), ((λ N a h. bare N a h), tt))

-- ---- states

-- what was read: up to the innermost open bracket, and since
abbrev Inside : Symbol → Mode → (List Token → Type 0) → List Token → Type 0
Inside N m K p = (b a : List Token) × (p ≡ b ++ a) × At N m a × K b

-- what stands in the innermost open bracket
abbrev wanted : List Bracket → Symbol
wanted [] = Expr
wanted (group ∷ around) = Expr
wanted (arguments ∷ around) = Arguments
wanted (predicate ∷ around) = Expr

-- what was read up to the innermost open bracket: once that is filled and closed, what stands around it goes on
abbrev Before : List Bracket → List Token → Type 0
Before [] b = b ≡ []
Before (group ∷ around) b = (e : List Token) → Is Expr e → Inside (wanted around) part (Before around) ((b ++ e) ++ (closing ∷ []))
Before (arguments ∷ around) b =
    ((e : List Token) → Is Arguments e → Inside (wanted around) part (Before around) ((b ++ e) ++ (closing ∷ [])))
    × Inside (wanted around) part (Before around) (b ++ (closing ∷ []))
Before (predicate ∷ around) b = (e : List Token) → Is Expr e → Inside (wanted around) part (Before around) ((b ++ e) ++ (']' ∷ []))

abbrev Read : State → List Token → Type 0
Read stuck p = Unit {0}
Read (reading m around) p = Inside (wanted around) m (Before around) p

-- in the mode m the token t may do this
abbrev Fine : Token → Act → Mode → Type 0
Fine t c m = (around : List Bracket) (p : List Token) → Read (reading m around) p → Read (done c around) (p ++ (t ∷ []))

moving : (t : Token) (m n : Mode) → ((N : Symbol) (a : List Token) → At N m a → At N n (a ++ (t ∷ []))) → Fine t (go n) m
unfolding done inner
moving t m n f around p (b, a, e, h, k) = (b, a ++ (t ∷ []), ap (λ z. z ++ (t ∷ [])) e ∙ append_assoc b a (t ∷ []), f (wanted around) a h, k)

-- what stands around a filled bracket
filled :
    (p b a x : List Token) (t u : Token) → p ≡ b ++ a → ((p ++ (t ∷ [])) ++ x) ++ (u ∷ []) ≡ b ++ (a ++ (t ∷ (x ++ (u ∷ []))))
filled p b a x t u e =
    append_assoc (p ++ (t ∷ [])) x (u ∷ [])
    ∙ (append_assoc p (t ∷ []) (x ++ (u ∷ [])) ∙ (ap (λ z. z ++ (t ∷ (x ++ (u ∷ [])))) e ∙ append_assoc b a (t ∷ (x ++ (u ∷ [])))))

entering_group : (m : Mode) → ((N : Symbol) (a : List Token) → At N m a → PathAt N a) → Fine opening (enter group) m
unfolding done inner productions
entering_group m f around p (b, a, e, h, k) = (
  p ++ (opening ∷ []),
  [],
  sym (append-nil (p ++ (opening ∷ []))),
  (λ x d. make first d),
  (λ x d. (b, a ++ (opening ∷ (x ++ (closing ∷ []))), filled p b a x opening closing e, part_after_group (wanted around) a x (f (wanted around) a h) d, k)),
)

entering_predicate : Fine '[' (enter predicate) part
unfolding done inner productions
entering_predicate around p (b, a, e, h, k) = (
  p ++ ('[' ∷ []),
  [],
  sym (append-nil (p ++ ('[' ∷ []))),
  (λ x d. make first d),
  (λ x d. (b, a ++ ('[' ∷ (x ++ (']' ∷ []))), filled p b a x '[' ']' e, part_after_predicate (wanted around) a x h d, k)),
)

entering_arguments : Fine opening (enter arguments) call
unfolding done inner productions
entering_arguments around p (b, a, e, h, k) = (
  p ++ (opening ∷ []),
  [],
  sym (append-nil (p ++ (opening ∷ []))),
  ((λ x d. make first (make first (make first d))), refl, refl),
  (
    (λ x d. (b, a ++ (opening ∷ (x ++ (closing ∷ []))), filled p b a x opening closing e, h.1 x d, k)),
    (b, a ++ (opening ∷ closing ∷ []), append_assoc p (opening ∷ []) (closing ∷ []) ∙ (ap (λ z. z ++ (opening ∷ closing ∷ [])) e ∙ append_assoc b a (opening ∷ closing ∷ [])), h.0, k),
  ),
)

-- a bracket is closed behind an operand
leaving_round : (m : Mode) → ((N : Symbol) (a : List Token) → At N m a → Ended N a) → Fine closing leave_round m
unfolding done inner
leaving_round m f [] p r = tt
leaving_round m f (group ∷ around) p (b, a, e, h, k) =
    subst (λ z. Inside (wanted around) part (Before around) (z ++ (closing ∷ []))) (sym e) (k a (ended_is Expr a (f Expr a h)))
leaving_round m f (arguments ∷ around) p (b, a, e, h, k) =
    subst (λ z. Inside (wanted around) part (Before around) (z ++ (closing ∷ []))) (sym e) (k.0 a (ended_is Arguments a (f Arguments a h)))
leaving_round m f (predicate ∷ around) p r = tt

leaving_square : (m : Mode) → ((N : Symbol) (a : List Token) → At N m a → Ended N a) → Fine ']' leave_square m
unfolding done inner
leaving_square m f [] p r = tt
leaving_square m f (group ∷ around) p r = tt
leaving_square m f (arguments ∷ around) p r = tt
leaving_square m f (predicate ∷ around) p (b, a, e, h, k) =
    subst (λ z. Inside (wanted around) part (Before around) (z ++ (']' ∷ []))) (sym e) (k a (ended_is Expr a (f Expr a h)))

-- a call with no argument
not_arguments : Expr ≡ Arguments → ⊥
unfolding productions
not_arguments e = nil≢cons (tail-eq_of_cons-eq (ap productions e))

leaving_empty : Fine closing leave_round argument
unfolding done inner
leaving_empty [] p r = tt
leaving_empty (group ∷ around) p (b, a, e, h, k) = absurd (not_arguments h.2)
leaving_empty (arguments ∷ around) p (b, a, e, h, k) =
    subst (λ z. Inside (wanted around) part (Before around) (z ++ (closing ∷ []))) (sym (e ∙ (ap (λ z. b ++ z) h.1 ∙ append-nil b))) k.1
leaving_empty (predicate ∷ around) p r = tt

parting : (m : Mode) → ((N : Symbol) (a : List Token) → At N m a → Ended N a) → Fine comma next_argument m
unfolding done inner
parting m f [] p r = tt
parting m f (group ∷ around) p r = tt
parting m f (arguments ∷ around) p (b, a, e, h, k) =
    (b, a ++ (comma ∷ []), ap (λ z. z ++ (comma ∷ [])) e ∙ append_assoc b a (comma ∷ []), arguments_after_comma Arguments a (ended_is Arguments a (f Arguments a h)), k)
parting m f (predicate ∷ around) p r = tt

-- ---- the table

-- what modes give is enough for what a token does in them
over :
    (X : Symbol → List Token → Type 0) (t : Token) (c : Act) (ms : List Mode) → ((m : Mode) → ((N : Symbol) (a : List Token) → At N m a → X N a) → Fine t c m)
    → Each (λ m. (N : Symbol) (a : List Token) → At N m a → X N a) ms → Each (Fine t c) ms
over X t c [] f e = tt
over X t c (m ∷ ms) f e = (f m e.0, over X t c ms f e.1)

going :
    (X : Symbol → List Token → Type 0) (t : Token) (n : Mode) (ms : List Mode) → ((N : Symbol) (a : List Token) → X N a → At N n (a ++ (t ∷ [])))
    → Each (λ m. (N : Symbol) (a : List Token) → At N m a → X N a) ms → Each (Fine t (go n)) ms
going X t n ms f = over X t (go n) ms (λ m g. moving t m n (λ N a h. f N a (g N a h)))

abbrev AllFine : Token → List Row → Type 0
AllFine t [] = Unit {0}
AllFine t (on ms c ∷ rest) = Each (Fine t c) ms × AllFine t rest

-- a binary operator behind an operand
operator : (t : Token) → Binary t → Each (Fine t (go operand)) ending
operator t o = going Ended t operand ending (λ N a h. left_after_operator N a t o h) ended

-- a primary expression of one token
primary : (t : Token) → Is PrimaryExpr (t ∷ []) → Each (Fine t (go part)) beginning
primary t d = going PathAt t part beginning (λ N a h. part_after_primary N a (t ∷ []) h d) begun

every_row_is_fine : (t : Token) → AllFine t (rows t)
unfolding rows productions
every_row_is_fine opening = (
  over PathAt opening (enter group) beginning entering_group begun,
  (
    (moving opening type empty (λ N a h. more N a opening (closing ∷ []) h), tt),
    (
      (moving opening instruction target (λ N a h. (more N a opening (closing ∷ []) h.0, more N a opening (Literal ∷ closing ∷ []) h.1)), tt),
      ((entering_arguments, tt), tt),
    ),
  ),
)
every_row_is_fine closing = (
  (leaving_empty, over Ended closing leave_round ending leaving_round ended),
  ((moving closing empty part (λ N a h. h), (moving closing target part (λ N a h. h.0), tt)), tt),
)
every_row_is_fine '[' = ((entering_predicate, tt), tt)
every_row_is_fine ']' = (over Ended ']' leave_square ending leaving_square ended, tt)
every_row_is_fine dot =
    (going StepAt dot whole stepping (λ N a h. whole_after_step N a (dot ∷ []) h (make (later first) (make first (token none)))) stepped, tt)
every_row_is_fine dots =
    (going StepAt dots whole stepping (λ N a h. whole_after_step N a (dots ∷ []) h (make (later first) (make (later first) (token none)))) stepped, tt)
every_row_is_fine at =
    (going StepAt at test stepping (λ N a h. test_after_axis N a (at ∷ []) h (make (later first) (make first (token none)))) stepped, tt)
every_row_is_fine comma = (over Ended comma next_argument ending parting ended, tt)
every_row_is_fine '::' = ((moving '::' axis test (λ N a h. h), tt), tt)
every_row_is_fine NameTest = (going TestAt NameTest part testing (λ N a h. h (NameTest ∷ []) (make first (token none))) tested, tt)
every_row_is_fine NodeType =
    (going TestAt NodeType type testing (λ N a h. more N a NodeType (opening ∷ closing ∷ []) (h (NodeType ∷ opening ∷ closing ∷ []) (make (later first) (token (token (token none)))))) tested, tt)
every_row_is_fine 'processing_instruction' = (
  going TestAt 'processing_instruction' instruction testing (λ N a h. (
    more N a 'processing_instruction' (opening ∷ closing ∷ []) (h ('processing_instruction' ∷ opening ∷ closing ∷ []) (make (later (later first)) (token (token (token none))))),
    more N a 'processing_instruction' (opening ∷ Literal ∷ closing ∷ []) (h ('processing_instruction' ∷ opening ∷ Literal ∷ closing ∷ []) (make (later (later (later first))) (token (token (token (token none)))))),
  ))
      tested,
  tt,
)
every_row_is_fine FunctionName = (
  going PathAt FunctionName call beginning (λ N a h. (
    more N a FunctionName (opening ∷ closing ∷ []) (part_after_primary N a (FunctionName ∷ opening ∷ closing ∷ []) h (make (later (later (later (later first)))) (make first (token (token (token none)))))),
    (λ x d.
        more N a FunctionName (opening ∷ (x ++ (closing ∷ [])))
        (part_after_primary N a (FunctionName ∷ opening ∷ (x ++ (closing ∷ []))) h (make (later (later (later (later first)))) (make (later first) (token (token (front d (token none)))))))),
  ))
      begun,
  tt,
)
every_row_is_fine AxisName = (
  going StepAt AxisName axis stepping (λ N a h. subst (λ z. TestAt N z) (sym (append_assoc a (AxisName ∷ []) ('::' ∷ []))) (test_after_axis N a (AxisName ∷ '::' ∷ []) h (make first (token (token none)))))
      stepped,
  tt,
)
every_row_is_fine Literal =
    (primary Literal (make (later (later first)) (token none)), ((moving Literal target empty (λ N a h. more N a Literal (closing ∷ []) h.1), tt), tt))
every_row_is_fine Number = (primary Number (make (later (later (later first))) (token none)), tt)
every_row_is_fine VariableReference = (primary VariableReference (make first (token none)), tt)
every_row_is_fine '/' = (
  going PathAt '/' root beginning (λ N a h. root_after_path N a h) begun,
  (going Whole '/' step continuing (λ N a h. h.1) continued, tt),
)
every_row_is_fine '//' = (
  going PathAt '//' step beginning (λ N a h. step_after_slashes N a h) begun,
  (going Whole '//' step continuing (λ N a h. h.2) continued, tt),
)
every_row_is_fine '|' = (going Ended '|' union ending (λ N a h. path_after_bar N a h) ended, tt)
every_row_is_fine '-' = (
  operator '-' (additive (later (later first))),
  (going Left '-' operand signing (λ N a h. left_after_minus N a h) signed, tt),
)
every_row_is_fine '+' = (operator '+' (additive (later first)), tt)
every_row_is_fine '=' = (operator '=' (equality (later first)), tt)
every_row_is_fine '!=' = (operator '!=' (equality (later (later first))), tt)
every_row_is_fine '<' = (operator '<' (relational (later first)), tt)
every_row_is_fine '<=' = (operator '<=' (relational (later (later (later first)))), tt)
every_row_is_fine '>' = (operator '>' (relational (later (later first))), tt)
every_row_is_fine '>=' = (operator '>=' (relational (later (later (later (later first))))), tt)
every_row_is_fine MultiplyOperator = (operator MultiplyOperator (multiplicative (later first)), tt)
every_row_is_fine 'and' = (operator 'and' (and (later first)), tt)
every_row_is_fine 'or' = (operator 'or' (or (later first)), tt)
every_row_is_fine 'div' = (operator 'div' (multiplicative (later (later first))), tt)
every_row_is_fine 'mod' = (operator 'mod' (multiplicative (later (later (later first)))), tt)
every_row_is_fine unknown = tt

picked : (t : Token) (l : List Row) → AllFine t l → (m : Mode) → Fine t (pick l m) m
unfolding pick done inner
picked t [] f m around p h = tt
picked t (on ms c ∷ rest) f m around p h = by_test (has ms m) refl (picked t rest f.1 m around p h)
  where
    by_test : (b : Bool) → has ms m ≡ b → Read (done (pick rest m) around) (p ++ (t ∷ [])) → Read (done (cond b c (pick rest m)) around) (p ++ (t ∷ []))
    by_test true e r = each (Fine t c) ms m f.0 (subst T (sym e) tt) around p h
    by_test false e r = r

reads_on : (s : State) (p ts : List Token) → Read s p → Read (run s ts) (p ++ ts)
unfolding run next
reads_on s p [] h = subst (λ z. Read s z) (sym (append-nil p)) h
reads_on stuck p (t ∷ ts) h = subst (λ z. Read (run stuck ts) z) (append_assoc p (t ∷ []) ts) (reads_on stuck (p ++ (t ∷ [])) ts h)
reads_on (reading m around) p (t ∷ ts) h =
    subst (λ z. Read (run (done (pick (rows t) m) around) ts) z) (append_assoc p (t ∷ []) ts)
    (reads_on (done (pick (rows t) m) around) (p ++ (t ∷ [])) ts (picked t (rows t) (every_row_is_fine t) m around p h))

-- what is accepted is a text of the grammar
sentence : (s : State) (p : List Token) → Read s p → T (accepting s) → Sentence p
unfolding accepting
sentence stuck p h k = absurd k
sentence (reading m []) p (b, a, e, h, g) k =
    cast (sym (e ∙ ap (λ z. z ++ a) g)) (ended_is Expr a (each (λ m. (N : Symbol) (a : List Token) → At N m a → Ended N a) ending m ended k Expr a h))
sentence (reading m (c ∷ around)) p h k = absurd k

pub accepted_sentence : (ts : List Token) → T (accepts ts) → Sentence ts
unfolding productions
accepted_sentence ts h = sentence (run start ts) ts (reads_on start [] ts ([], [], refl, (λ e d. make first d), refl)) h
