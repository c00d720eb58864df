-- The shapes of constructs: where each kind of construct can stand in another, and which token it begins with. Every construct of a text of
-- the grammar has such a shape (`sentence_formed`): each production keeps it, which is one computed test, and so does every derivation.
-- Assumes nothing.
use Prim.Native.Nat.{ℕ, zero, suc, ◌+◌}
use mathlib.Core.Path.{◌≡◌, refl, sym, ◌∙◌, ap, subst}
use mathlib.Core.Bool.{Bool, true, ◌||◌, cond}
use mathlib.Core.List.{List, [], ◌∷◌, ◌++◌, map}
use lib.ListN.{get_or}
use native.Mathlib.Omega.{arith}
use Rattle.text.specs.Grammar.{Token, NameTest, NodeType, FunctionName, AxisName, Number, unknown, Symbol, the, LocationPath, AbsoluteLocationPath, RelativeLocationPath, Step, AxisSpecifier, NodeTest, Predicates, Predicate, PredicateExpr, AbbreviatedAbsoluteLocationPath, AbbreviatedRelativeLocationPath, AbbreviatedStep, AbbreviatedAxisSpecifier, Expr, PrimaryExpr, FunctionCall, Arguments, Argument, UnionExpr, PathExpr, FilterExpr, OrExpr, AndExpr, EqualityExpr, RelationalExpr, AdditiveExpr, MultiplicativeExpr, UnaryExpr, productions, Among, first, later, Derives, none, token, by, Sentence}
use Rattle.text.specs.Syntax.{Kind, number, group, call, arguments, negative, binary, union, filter, onward, step, axis, attribute, named, typed, predicates, is_kind, Syntax, blank, part, Reading, pass, makes, readings, nth, made, which, past, stand_for}

-- ---- where constructs stand

-- as an expression, which may be bracketed, as the arguments of a call, as a step's axis, or elsewhere
pub data Standing : Type 0 where
  expression of_call of_axis elsewhere : Standing

-- the kinds that can stand there
abbrev pub can_stand : Standing → Kind → Bool
can_stand expression k = true
can_stand of_call k = is_kind k arguments
can_stand of_axis k = is_kind k axis || is_kind k attribute
can_stand elsewhere k = true

-- where the first and the last part of a construct stand; a second one stands elsewhere
abbrev pub first_of : Kind → Standing
first_of k =
    cond (is_kind k arguments) of_call
    (cond (is_kind k step) of_axis
    (cond (is_kind k binary || is_kind k union || is_kind k filter || is_kind k onward || is_kind k predicates) expression
    elsewhere))

abbrev pub last_of : Kind → Standing
last_of k =
    cond (is_kind k call) of_call
    (cond (is_kind k group || is_kind k arguments || is_kind k negative || is_kind k binary || is_kind k union || is_kind k filter) expression
    elsewhere)

-- the kinds that a word tells apart: functions, axes, names and node types; with numbers, those that their first token's bytes tell apart
abbrev pub is_word : Kind → Bool
is_word k = is_kind k call || is_kind k axis || is_kind k named || is_kind k typed

abbrev pub is_spelled : Kind → Bool
is_spelled k = is_kind k number || is_word k

-- the class of that token

abbrev pub class_for : Kind → Token
class_for k =
    cond (is_kind k number) Number
    (cond (is_kind k call) FunctionName
    (cond (is_kind k axis) AxisName
    (cond (is_kind k named) NameTest
    (cond (is_kind k typed) NodeType
    unknown))))

-- a construct that stands there has its shape, over these tokens
abbrev pub Formed : List Token → Standing → Syntax → Type 0
Formed ts p blank = Unit {0}
Formed ts p (part k t i a b c) =
    (can_stand p k ≡ true)
    × (is_spelled k ≡ true → get_or ts i unknown ≡ class_for k)
    × Formed ts (first_of k) a
    × Formed ts elsewhere b
    × Formed ts (last_of k) c

-- ---- the productions

-- where what a symbol stands for can stand
standing : Symbol → Standing
standing (the t) = elsewhere
standing LocationPath = expression
standing AbsoluteLocationPath = expression
standing RelativeLocationPath = elsewhere
standing Step = elsewhere
standing AxisSpecifier = of_axis
standing NodeTest = elsewhere
standing Predicates = elsewhere
standing Predicate = expression
standing PredicateExpr = expression
standing AbbreviatedAbsoluteLocationPath = expression
standing AbbreviatedRelativeLocationPath = elsewhere
standing AbbreviatedStep = elsewhere
standing AbbreviatedAxisSpecifier = of_axis
standing Expr = expression
standing PrimaryExpr = expression
standing FunctionCall = expression
standing Arguments = of_call
standing Argument = expression
standing UnionExpr = expression
standing PathExpr = expression
standing FilterExpr = expression
standing OrExpr = expression
standing AndExpr = expression
standing EqualityExpr = expression
standing RelationalExpr = expression
standing AdditiveExpr = expression
standing MultiplicativeExpr = expression
standing UnaryExpr = expression

-- of the k-th symbol; p where there is none
abbrev standing_at : List Symbol → ℕ → Standing → Standing
standing_at r k p = get_or (map standing r) k p

-- what a production has to say: the kind can stand there, and so can the parts; and, for what is spelled, the first symbol
data Facts : Type 0 where
  facts : Bool → Standing → Standing → Standing → Symbol → Facts

abbrev Row : Standing → List Symbol → Reading → Type 0
Row p r (pass k) = standing_at r k p ≡ p
Row p r (makes k t a b c) =
    facts (can_stand p k) (standing_at r a (first_of k)) (standing_at r b elsewhere) (standing_at r c (last_of k))
    (cond (is_spelled k) (get_or r 0 Expr) Expr)
    ≡ facts true (first_of k) elsewhere (last_of k) (cond (is_spelled k) (the (class_for k)) Expr)

abbrev Rows : Standing → List (List Symbol) → List Reading → Type 0
Rows p [] ds = Unit {0}
Rows p (r ∷ rs) [] = ⊥
Rows p (r ∷ rs) (d ∷ ds) = Row p r d × Rows p rs ds

all_rows : (n : Symbol) → Rows (standing n) (productions n) (readings n)
unfolding standing productions readings
all_rows (the t) = tt
all_rows LocationPath = (refl, (refl, tt))
all_rows AbsoluteLocationPath = (refl, (refl, (refl, tt)))
all_rows RelativeLocationPath = (refl, (refl, (refl, tt)))
all_rows Step = (refl, (refl, tt))
all_rows AxisSpecifier = (refl, (refl, tt))
all_rows NodeTest = (refl, (refl, (refl, (refl, tt))))
all_rows Predicates = (refl, (refl, tt))
all_rows Predicate = (refl, tt)
all_rows PredicateExpr = (refl, tt)
all_rows AbbreviatedAbsoluteLocationPath = (refl, tt)
all_rows AbbreviatedRelativeLocationPath = (refl, tt)
all_rows AbbreviatedStep = (refl, (refl, tt))
all_rows AbbreviatedAxisSpecifier = (refl, (refl, tt))
all_rows Expr = (refl, tt)
all_rows PrimaryExpr = (refl, (refl, (refl, (refl, (refl, tt)))))
all_rows FunctionCall = (refl, (refl, tt))
all_rows Arguments = (refl, (refl, tt))
all_rows Argument = (refl, tt)
all_rows UnionExpr = (refl, (refl, tt))
all_rows PathExpr = (refl, (refl, (refl, (refl, tt))))
all_rows FilterExpr = (refl, (refl, tt))
all_rows OrExpr = (refl, (refl, tt))
all_rows AndExpr = (refl, (refl, tt))
all_rows EqualityExpr = (refl, (refl, (refl, tt)))
all_rows RelationalExpr = (refl, (refl, (refl, (refl, (refl, tt)))))
all_rows AdditiveExpr = (refl, (refl, (refl, tt)))
all_rows MultiplicativeExpr = (refl, (refl, (refl, (refl, tt))))
all_rows UnaryExpr = (refl, (refl, tt))

taken :
    (p : Standing) {r : List Symbol} {rows : List (List Symbol)} (a : Among r rows) (ds : List Reading) → Rows p rows ds
    → Row p r (get_or ds (which a) (pass 0))
unfolding which
taken p first [] h = absurd h
taken p first (d ∷ ds) h = h.0
taken p (later a) [] h = absurd h
taken p (later a) (d ∷ ds) h = taken p a ds h.1

-- ---- derivations

-- these tokens stand from i on
abbrev Here : List Token → ℕ → List Token → Type 0
Here ts i [] = Unit {0}
Here ts i (x ∷ xs) = (get_or ts i unknown ≡ x) × Here ts (suc i) xs

here_both : (ts : List Token) (i : ℕ) (xs ys : List Token) → Here ts i (xs ++ ys) → Here ts i xs × Here ts (past i xs) ys
unfolding past
here_both ts i [] ys h = (tt, h)
here_both ts i (x ∷ xs) ys h = let (f, l) = here_both ts (suc i) xs ys h.1 in ((h.0, f), l)

here_all : (ts : List Token) (i : ℕ) (xs : List Token) → ((j : ℕ) → get_or ts (i + j) unknown ≡ get_or xs j unknown) → Here ts i xs
here_all ts i [] h = tt
here_all ts i (x ∷ xs) h =
    let z : i + 0 ≡ i = omega arith in
    (ap (λ (n : ℕ). get_or ts n unknown) (sym z) ∙ h 0, here_all ts (suc i) xs next)
  where
    next : (j : ℕ) → get_or ts (suc i + j) unknown ≡ get_or xs j unknown
    next j = let e : suc i + j ≡ i + suc j = omega arith in ap (λ (n : ℕ). get_or ts n unknown) e ∙ h (suc j)

-- a production that begins with a token has it first
no_row : {r : List Symbol} {rows : List (List Symbol)} → Among r rows → rows ≡ [] → ⊥
no_row first e = let z : ◌≡◌ {A = ℕ} 0 1 = cc in omega arith
no_row (later a) e = let z : ◌≡◌ {A = ℕ} 0 1 = cc in omega arith

first_token :
    (ts : List Token) (i : ℕ) (t : Token) {r : List Symbol} {xs : List Token} → Derives r xs → get_or r 0 Expr ≡ the t → Here ts i xs
    → get_or ts i unknown ≡ t
unfolding productions
first_token ts i t none e h = let z : ◌≡◌ {A = ℕ} 0 1 = cc in absurd (omega arith)
first_token ts i t (token {t = u} d) e h = let same : u ≡ t = cc in h.0 ∙ same
first_token ts i t (by {n = n} a d d') e h = absurd (no_row a (ap productions e))

-- what symbols stand for, one after the other, has their shapes
abbrev AllFormed : List Token → List Symbol → List Syntax → Type 0
AllFormed ts [] [] = Unit {0}
AllFormed ts [] (x ∷ xs) = ⊥
AllFormed ts (n ∷ r) [] = ⊥
AllFormed ts (n ∷ r) (x ∷ xs) = Formed ts (standing n) x × AllFormed ts r xs

nth_formed :
    (ts : List Token) (r : List Symbol) (xs : List Syntax) (k : ℕ) (p : Standing) → AllFormed ts r xs
    → Formed ts (standing_at r k p) (nth xs k)
nth_formed ts [] [] k p h = tt
nth_formed ts [] (x ∷ xs) k p h = absurd h
nth_formed ts (n ∷ r) [] k p h = absurd h
nth_formed ts (n ∷ r) (x ∷ xs) zero p h = h.0
nth_formed ts (n ∷ r) (x ∷ xs) (suc k) p h = nth_formed ts r xs k p h.1

made_formed :
    (ts : List Token) (i : ℕ) (p : Standing) {r : List Symbol} {ys : List Token} (d : Reading) (xs : List Syntax) → Row p r d → Derives r ys
    → Here ts i ys → AllFormed ts r xs → Formed ts p (made d i xs)
unfolding made
made_formed ts i p {r} (pass k) xs row ds h all = subst (λ (q : Standing). Formed ts q (nth xs k)) row (nth_formed ts r xs k p all)
made_formed ts i p {r} (makes k t a b c) xs row ds h all =
    let can : can_stand p k ≡ true = cc in
    let one : standing_at r a (first_of k) ≡ first_of k = cc in
    let two : standing_at r b elsewhere ≡ elsewhere = cc in
    let three : standing_at r c (last_of k) ≡ last_of k = cc in
    let begins : cond (is_spelled k) (get_or r 0 Expr) Expr ≡ cond (is_spelled k) (the (class_for k)) Expr = cc in (
      can,
      (λ e. first_token ts i (class_for k) ds (rw e at begins) h),
      subst (λ (q : Standing). Formed ts q (nth xs a)) one (nth_formed ts r xs a (first_of k) all),
      subst (λ (q : Standing). Formed ts q (nth xs b)) two (nth_formed ts r xs b elsewhere all),
      subst (λ (q : Standing). Formed ts q (nth xs c)) three (nth_formed ts r xs c (last_of k) all),
    )

stand_formed :
    (ts : List Token) {s : List Symbol} {xs : List Token} (d : Derives s xs) (i : ℕ) → Here ts i xs → AllFormed ts s (stand_for d i)
unfolding stand_for standing
stand_formed ts none i h = tt
stand_formed ts (token d) i h = ((refl, (λ e. cc), tt, tt, tt), stand_formed ts d (suc i) h.1)
stand_formed ts (by {n = n} {xs = xs} {ts = ys} a d e) i h =
    let (inner, behind) = here_both ts i xs ys h in
    let kept : Row (standing n) _ (get_or (readings n) (which a) (pass 0)) = taken (standing n) a (readings n) (all_rows n) in (
      made_formed ts i (standing n) (get_or (readings n) (which a) (pass 0)) (stand_for d i) kept d inner (stand_formed ts d i inner),
      stand_formed ts e (past i xs) behind,
    )

-- the construct of a text of the grammar
pub sentence_formed : (ts : List Token) (d : Sentence ts) (e : Syntax) → stand_for d 0 ≡ e ∷ [] → Formed ts expression e
unfolding standing
sentence_formed ts d e h =
    let all : AllFormed ts (Expr ∷ []) (e ∷ []) =
    subst (AllFormed ts (Expr ∷ [])) h (stand_formed ts d 0 (here_all ts 0 ts (λ j. let z : 0 + j ≡ j = omega arith in rw z))) in
    all.0
