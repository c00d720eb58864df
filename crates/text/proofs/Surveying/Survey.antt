-- The survey is right: behind a text of the grammar it has found the most urgent of the text's faults.
-- Each production keeps its name's promise, and the scheme does the rest.
-- Assumes nothing.
use Prim.Native.Nat.{ℕ, ◌<◌, max}
use mathlib.Core.Path.{◌≡◌, refl, sym, ◌∙◌, ap}
use mathlib.Core.List.{List, [], ◌∷◌}
use native.Mathlib.Omega.{arith}
use native.Mathlib.Nat.{max-zero}
use Rattle.text.specs.declared.Sort.TheVariants.{Numeral, Unheld}
use Rattle.text.specs.Grammar.{Token, dot, dots, Literal, Number, VariableReference, '/', '//', '+', '-', '=', '!=', '<', '<=', '>', '>=', MultiplyOperator, 'div', 'mod'}
use Rattle.text.specs.Grammar.{Symbol, the, LocationPath, AbsoluteLocationPath, RelativeLocationPath, Step, AxisSpecifier, NodeTest, Predicates, Predicate, PredicateExpr, AbbreviatedAbsoluteLocationPath, AbbreviatedRelativeLocationPath, AbbreviatedStep, AbbreviatedAxisSpecifier, Expr, PrimaryExpr, FunctionCall, Arguments, Argument, UnionExpr, PathExpr, FilterExpr, OrExpr, AndExpr, EqualityExpr, RelationalExpr, AdditiveExpr, MultiplicativeExpr, UnaryExpr, productions, Sentence}
use Rattle.text.specs.Syntax.{Syntax, token_of, readings, made}
use Rattle.text.specs.Syntax as K
use Rattle.text.specs.Machine.{operand, has, stepping, rows, number}
use Rattle.text.specs.Machine as M
use Rattle.text.specs.Growing.{tightness, syntax_of}
use Rattle.text.specs.Limited.{Source, place, sort, own, faults, text_faults, as_path}
use Rattle.text.specs.Survey.{worst, operated, Survey, survey_token, fresh, unread, finished, surveyed}
use Rattle.text.proofs.Scheme.{View, a_token, a_name, Every, reads}
use Rattle.text.proofs.Tree.{the_tree}
use Rattle.text.proofs.Surveying.Urgent.{worst_append, worst_in, as_a_path}
use Rattle.text.proofs.Surveying.Seen.{Low, low, Middle, High, middle, high}
use Rattle.text.proofs.Surveying.Promises.{Before, Whole, expression, path, primary_view, Unitedly, walk, specifier, Tests, Filters, Predicated, Arguing, Argues, before, whole, Testing, Following, InPath}
use Rattle.text.proofs.Surveying.Operators.{lift, joins, by_row, minus_operates, signs, one_part, next_part, no_sign, or_so, and_so, equal, compare, add, multiply}
use Rattle.text.proofs.Surveying.Paths.{step_read_lem, point, with_at, with_axis_lem, without_axis, by_name, by_type, by_instruction, by_target, full_step, slash_leads, slashes_lead, next_step, location, root_alone, slash_begins, slashes_begin, from_root, leads_on, no_steps, bracketed, more, no_more, filtered}
use Rattle.text.proofs.Surveying.Calls.{number_read, variable_read, string_read_lem, one_token, in_brackets, empty_call, one_argument, fresh_ends, another_argument, full_call}

module _ (s : Source) where
  -- ---- every production keeps its name's promise

  -- the demand and the promise of each name
  abbrev view : Symbol → View Survey
  view (the t) = a_token t
  view LocationPath = path s
  view AbsoluteLocationPath = path s
  view RelativeLocationPath = walk s
  view Step = walk s
  view AxisSpecifier = specifier s
  view NodeTest = a_name (λ g i. Testing g) (λ g i g' j x. Tests s g x g')
  view Predicates = a_name (λ g i. InPath g) (λ g i g' j x. Filters s g x g')
  view Predicate = a_name (λ g i. Following g) (λ g i g' j x. Predicated s g x g')
  view PredicateExpr = expression s Low 1
  view AbbreviatedAbsoluteLocationPath = path s
  view AbbreviatedRelativeLocationPath = walk s
  view AbbreviatedStep = walk s
  view AbbreviatedAxisSpecifier = specifier s
  view Expr = expression s Low 1
  view PrimaryExpr = primary_view s
  view FunctionCall = primary_view s
  view Arguments = a_name (λ g i. Arguing s i g) (λ g i g' j x. Argues s g i x g')
  view Argument = expression s Low 1
  view UnionExpr = a_name (λ g i. Before s High i g) (λ g i g' j x. Unitedly s g i x g')
  view PathExpr = path s
  view FilterExpr = primary_view s
  view OrExpr = expression s Low 1
  view AndExpr = expression s Low 2
  view EqualityExpr = expression s Low 3
  view RelationalExpr = expression s Middle 4
  view AdditiveExpr = expression s High 5
  view MultiplicativeExpr = expression s High 6
  view UnaryExpr = expression s High 7

  every : ((i j : ℕ) → i < j → place s i < place s j) → (n : Symbol) → Every (survey_token s) view (view n) (productions n) (readings n)
  unfolding productions readings made token_of survey_token rows own sort tightness operated has number
  every ascends (the t) = tt
  every ascends LocationPath = (location s, ((λ g i p. (p, (λ g' j x w. w))), tt))
  every ascends AbsoluteLocationPath = (root_alone s, (from_root s '/' M.root (slash_begins s) tt refl, ((λ g i p. (p, (λ g' j x w. w))), tt)))
  every ascends RelativeLocationPath = ((λ g i p. (p, (λ g' j x w. w))), (next_step s '/' (slash_leads s), ((λ g i p. (p, (λ g' j x w. w))), tt)))
  every ascends Step = (full_step s, ((λ g i p. (p, (λ g' j x w. w))), tt))
  every ascends AxisSpecifier = (with_axis_lem s, ((λ g i p. (p, (λ g' j x w. w))), tt))
  every ascends NodeTest = (by_name s, (by_type s, (by_instruction s, (by_target s, tt))))
  every ascends Predicates = (no_more s, (more s, tt))
  every ascends Predicate = (bracketed s, tt)
  every ascends PredicateExpr = ((λ g i p. (p, (λ g' j x w. w))), tt)
  every ascends AbbreviatedAbsoluteLocationPath = (from_root s '//' M.step (slashes_begin s) tt refl, tt)
  every ascends AbbreviatedRelativeLocationPath = (next_step s '//' (slashes_lead s), tt)
  every ascends AbbreviatedStep = (
    point s K.self dot (step_read_lem s stepping dot M.whole K.self (λ y i. refl) refl),
    (point s K.parent dots (step_read_lem s stepping dots M.whole K.parent (λ y i. refl) refl), tt),
  )
  every ascends AbbreviatedAxisSpecifier = (with_at s, (without_axis s, tt))
  every ascends Expr = ((λ g i p. (p, (λ g' j x w. w))), tt)
  every ascends PrimaryExpr = (
    one_token s K.variable VariableReference Unheld (variable_read s) (λ i. refl),
    (
      in_brackets s,
      (one_token s K.string Literal Unheld (string_read_lem s) (λ i. refl), (one_token s K.number Number Numeral (number_read s) (λ i. refl), ((λ g i p. (p, (λ g' j x w. w))), tt))),
    ),
  )
  every ascends FunctionCall = (empty_call s, (full_call s ascends, tt))
  every ascends Arguments = (one_argument s, (another_argument s, tt))
  every ascends Argument = ((λ g i p. (p, (λ g' j x w. w))), tt)
  every ascends UnionExpr = (one_part s, (next_part s, tt))
  every ascends PathExpr = ((λ g i p. (p, (λ g' j x w. w))), (no_steps s, (leads_on s '/' (slash_leads s), (leads_on s '//' (slashes_lead s), tt))))
  every ascends FilterExpr = ((λ g i p. (p, (λ g' j x w. w))), (filtered s, tt))
  every ascends OrExpr = (lift s 1 2 Low Low (omega arith) (λ p l a. a), (joins s (or_so s), tt))
  every ascends AndExpr = (lift s 2 3 Low Low (omega arith) (λ p l a. a), (joins s (and_so s), tt))
  every ascends EqualityExpr = (
    lift s 3 4 Low Middle (omega arith) (λ p l a. middle a),
    (joins s (equal s '=' refl (by_row s 3 '=' (λ y i. refl) refl)), (joins s (equal s '!=' refl (by_row s 3 '!=' (λ y i. refl) refl)), tt)),
  )
  every ascends RelationalExpr = (
    lift s 4 5 Middle High (omega arith) (λ p l a. high a),
    (
      joins s (compare s '<' refl (by_row s 4 '<' (λ y i. refl) refl)),
      (
        joins s (compare s '>' refl (by_row s 4 '>' (λ y i. refl) refl)),
        (joins s (compare s '<=' refl (by_row s 4 '<=' (λ y i. refl) refl)), (joins s (compare s '>=' refl (by_row s 4 '>=' (λ y i. refl) refl)), tt)),
      ),
    ),
  )
  every ascends AdditiveExpr = (
    lift s 5 6 High High (omega arith) (λ p l a. a),
    (joins s (add s '+' refl (by_row s 5 '+' (λ y i. refl) refl)), (joins s (add s '-' refl (minus_operates s)), tt)),
  )
  every ascends MultiplicativeExpr = (
    lift s 6 7 High High (omega arith) (λ p l a. a),
    (
      joins s (multiply s MultiplyOperator refl (by_row s 6 MultiplyOperator (λ y i. refl) refl)),
      (joins s (multiply s 'div' refl (by_row s 6 'div' (λ y i. refl) refl)), (joins s (multiply s 'mod' refl (by_row s 6 'mod' (λ y i. refl) refl)), tt)),
    ),
  )
  every ascends UnaryExpr = (no_sign s, (signs s, tt))

  -- ---- the whole text

  -- one construct was read, and nothing else
  abbrev OneRead : Survey → ℕ → List Syntax → Type 0
  OneRead g j xs = (x : Syntax) × Whole s 1 (fresh 0 (place s 0)) [] 0 0 x g × (xs ≡ x ∷ [])

  text_worst : {g : Survey} (x : Syntax) → Whole s 1 (fresh 0 (place s 0)) [] 0 0 x g → finished s g ≡ worst s (text_faults s x)
  unfolding finished text_faults
  text_worst x (whole {l' = l'} {v' = v'} {found' = found'} e b w) =
      w.ends
      ∙ (fresh_ends s 0 (place s 0) (sort s x) (max (worst_in s x) 0)
      ∙ sym (worst_append s (as_path s x) (faults s x) ∙ rw (as_a_path s x, b, max-zero)))

-- what the survey finds is the most urgent of the text's faults
pub survey_right :
    (s : Source) → ((i j : ℕ) → i < j → place s i < place s j) → (ts : List Token) (d : Sentence ts)
    → surveyed s ts ≡ worst s (text_faults s (syntax_of ts))
unfolding surveyed has number
survey_right s ascends ts d =
    let (x, w, e) =
    reads (survey_token s) (view s) (λ t. refl) (every s ascends) d (OneRead s) (unread s) 0
    (before {m = operand} tt low, (λ g j x w. (x, w, refl))) in
    let same : x ≡ syntax_of ts = cc (the_tree ts d) in
    text_worst s x w ∙ ap (λ (y : Syntax). worst s (text_faults s y)) same
