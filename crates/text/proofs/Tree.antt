-- The computed tree of constructs is what every derivation stands for, and so all derivations of a text stand for the same.
-- Each name has a demand on the state before it and a promise of the state after it; each production keeps its name's promise; an
-- induction on the derivation does the rest.
-- Assumes nothing.
use Prim.Native.Nat.{ℕ, suc, ◌≤◌}
use mathlib.Core.Path.{◌≡◌, refl, sym, ◌∙◌, ap, subst, subst⁻¹}
use mathlib.Core.Bool.{Bool, true, false, cond}
use mathlib.Core.List.{List, [], ◌∷◌}
use native.Mathlib.Omega.{arith}
use lib.Dec.{T, leb, leb→le, le→leb}
use Rattle.text.specs.Grammar.{Token, opening, closing, '[', ']', dot, dots, at, comma, '::', NameTest, NodeType, 'processing_instruction', FunctionName, AxisName, Literal, Number, VariableReference, '/', '//', '|', '+', '-', '=', '!=', '<', '<=', '>', '>=', MultiplyOperator, 'and', 'or', 'div', 'mod', unknown}
use Rattle.text.specs.Grammar.{Symbol, the, LocationPath, AbsoluteLocationPath, RelativeLocationPath, Step, AxisSpecifier, NodeTest, Predicates, Predicate, PredicateExpr, AbbreviatedAbsoluteLocationPath, AbbreviatedRelativeLocationPath, AbbreviatedStep, AbbreviatedAxisSpecifier, Expr, PrimaryExpr, FunctionCall, Arguments, Argument, UnionExpr, PathExpr, FilterExpr, OrExpr, AndExpr, EqualityExpr, RelationalExpr, AdditiveExpr, MultiplicativeExpr, UnaryExpr, productions, Sentence}
use Rattle.text.specs.Syntax.{Kind, word, number, string, variable, group, call, arguments, negative, binary, union, filter, onward, relative, absolute, chain, step, self, parent, axis, attribute, named, typed, instruction, target, predicates, Syntax, blank, part, begin, token_of, readings, made, stand_for, read_all}
use Rattle.text.proofs.Scheme.{View, a_token, a_name, Every, reads}
use Rattle.text.specs.Growing.{Hole, hole, filled, tightness, strength, wanted, rooted, tested, had, Growth, grown, settle, top_strength, begun, with_axis, with_test, with_point, with_operand, with_string, with_opening, fill, for_arguments, for_filter, is_blank, close_round, with_closing, with_bracket, close_square, with_square, close_argument, with_comma, with_call, goes_on, with_slash, join, with_operator, with_minus, grow, settled, ended, syntax_of}

-- ---- filling holes

abbrev settle_all : ℕ → Growth → Growth
settle_all k (grown due hs x) = settle k hs x

abbrev holes : Growth → List Hole
holes (grown due hs x) = hs

-- the holes bind less than k
abbrev Below : ℕ → List Hole → Type 0
Below k hs = leb k (top_strength hs) ≡ false

-- a test that is computed, with what it gave
tells : (b : Bool) → T b → b ≡ true
tells true h = refl
tells false h = absurd h

higher : (k m s : ℕ) → T (leb k m) → leb k s ≡ false → leb m s ≡ false
higher k m s h e = decide (leb m s) refl
  where
    decide : (b : Bool) → leb m s ≡ b → leb m s ≡ false
    decide false q = q
    decide true q =
        let below : k ≤ m = leb→le k m h in
        let above : m ≤ s = leb→le m s (subst T (sym q) tt) in
        let all : k ≤ s = omega (arith, below, above) in
        absurd (subst T e (le→leb k s all))

pub lower : (k m s : ℕ) → T (leb k m) → leb m s ≡ true → leb k s ≡ true
lower k m s h e =
    let below : k ≤ m = leb→le k m h in
    let above : m ≤ s = leb→le m s (subst T (sym e) tt) in
    let all : k ≤ s = omega (arith, below, above) in
    tells (leb k s) (le→leb k s all)

stays : (k : ℕ) (hs : List Hole) (x : Syntax) → Below k hs → settle k hs x ≡ grown had hs x
unfolding settle top_strength
stays k [] x e = refl
stays k (h ∷ hs) x e = ap (λ (b : Bool). cond b (settle k hs (filled h x)) (grown had (h ∷ hs) x)) e

fills : (k : ℕ) (h : Hole) (hs : List Hole) (x : Syntax) → leb k (strength h) ≡ true → settle k (h ∷ hs) x ≡ settle k hs (filled h x)
unfolding settle
fills k h hs x e = ap (λ (b : Bool). cond b (settle k hs (filled h x)) (grown had (h ∷ hs) x)) e

-- what binds less strongly fills all that what binds more strongly does
twice : (k m : ℕ) → T (leb k m) → (hs : List Hole) (x : Syntax) → settle_all k (settle m hs x) ≡ settle k hs x
unfolding settle
twice k m h [] x = refl
twice k m h (o ∷ hs) x = decide (twice k m h hs (filled o x)) (leb m (strength o)) refl
  where
    decide :
        settle_all k (settle m hs (filled o x)) ≡ settle k hs (filled o x) → (b : Bool) → leb m (strength o) ≡ b
        → settle_all k (settle m (o ∷ hs) x) ≡ settle k (o ∷ hs) x
    decide ih true q = ap (settle_all k) (fills m o hs x q) ∙ (ih ∙ sym (fills k o hs x (lower k m (strength o) h q)))
    decide ih false q = ap (settle_all k) (ap (λ (b : Bool). cond b (settle m hs (filled o x)) (grown had (o ∷ hs) x)) q)

again : (k m : ℕ) → T (leb k m) → (g : Growth) → settle_all k (settle_all m g) ≡ settle_all k g
again k m h (grown due hs x) = twice k m h hs x

-- ---- demands and promises

-- an operand is due, and the holes bind less than k
data Operand (k : ℕ) : Growth → Type 0 where
  operand : {hs : List Hole} {x : Syntax} → Below k hs → Operand k (grown wanted hs x)

-- a step is due
data Stepping (k : ℕ) : Growth → Type 0 where
  step_wanted : {hs : List Hole} {x : Syntax} → Below k hs → Stepping k (grown wanted hs x)
  step_rooted : {hs : List Hole} {x : Syntax} → Below k hs → Stepping k (grown rooted hs x)

-- a node test is due
data Testing : Growth → Type 0 where
  test_wanted : {hs : List Hole} {x : Syntax} → Testing (grown wanted hs x)
  test_rooted : {hs : List Hole} {x : Syntax} → Testing (grown rooted hs x)
  test_tested : {hs : List Hole} {x : Syntax} → Testing (grown tested hs x)

-- an operand is there; it may be a `/` alone
data Ready : Growth → Type 0 where
  ready_had : {hs : List Hole} {x : Syntax} → Ready (grown had hs x)
  ready_rooted : {hs : List Hole} {x : Syntax} → Ready (grown rooted hs x)

data Had : Growth → Type 0 where
  is_had : {hs : List Hole} {x : Syntax} → Had (grown had hs x)

-- what binds as strongly as k finds x over the holes hs; x begins with token i
record Whole (k : ℕ) (hs : List Hole) (i : ℕ) (g : Growth) (x : Syntax) : Type 0 where
  ready : Ready g
  settles : settle_all k g ≡ settle k hs x
  begins : begin x ≡ i
  there : is_blank x ≡ false

-- the same of steps: a path may have begun with them
record Walked (k : ℕ) (hs : List Hole) (i : ℕ) (g : Growth) (x : Syntax) : Type 0 where
  had_it : Had g
  settles : settle_all k g ≡ settle k (begun i hs) x
  begins : begin x ≡ i

-- x itself is over the holes
record Exact (hs : List Hole) (i : ℕ) (g : Growth) (x : Syntax) : Type 0 where
  same : g ≡ grown had hs x
  begins : begin x ≡ i
  there : is_blank x ≡ false

-- arguments stand in a hole of their own
data Arguing (i : ℕ) : Growth → Type 0 where
  arguing : {hs : List Hole} → Arguing i (grown wanted (hole arguments unknown i blank blank ∷ hs) blank)

abbrev below_one : List Hole → List Hole
below_one [] = []
below_one (h ∷ hs) = hs

record Argued (hs : List Hole) (i : ℕ) (g : Growth) (x : Syntax) : Type 0 where
  before : Syntax
  last : Syntax
  ready : Ready g
  settles : settle_all 1 g ≡ grown had (hole arguments unknown i before blank ∷ hs) last
  same : x ≡ part arguments unknown i before blank last
  there : is_blank last ≡ false

-- the hole of a predicate behind x
abbrev opened : ℕ → List Hole → Syntax → Hole
opened i hs x = cond (leb 11 (top_strength hs)) (hole word '[' i blank blank) (hole filter unknown (begin x) x blank)

abbrev last_read : Growth → Syntax
last_read (grown due hs x) = x

data Predicated : Growth → Type 0 where
  predicated : {hs : List Hole} → leb 11 (top_strength hs) ≡ true → Predicated (grown had hs blank)

abbrev expression : ℕ → View Growth
expression k = a_name (λ g i. Operand k g) (λ g i g' j x. Whole k (holes g) i g' x)

-- a sign may stand before a sign
abbrev signed : View Growth
signed = a_name (λ g i. Operand 8 g) (λ g i g' j x. Whole 7 (holes g) i g' x)

abbrev exact : View Growth
exact = a_name (λ g i. Operand 9 g) (λ g i g' j x. Exact (holes g) i g' x)

abbrev walk : ℕ → View Growth
walk k = a_name (λ g i. Stepping k g) (λ g i g' j x. Walked k (holes g) i g' x)

abbrev specifier : View Growth
specifier =
    a_name (λ g i. Stepping 11 g)
    (λ g i g' j x. Testing g' × ((test : Syntax) → with_test had j test g' ≡ grown had (hole step unknown i x test ∷ begun i (holes g)) blank))

abbrev view : Symbol → View Growth
view (the t) = a_token t
view LocationPath = expression 9
view AbsoluteLocationPath = expression 9
view RelativeLocationPath = walk 10
view Step = walk 11
view AxisSpecifier = specifier
view NodeTest = a_name (λ g i. Testing g) (λ g i g' j x. g' ≡ with_test had i x g)
view Predicates = a_name (λ g i. Predicated g) (λ g i g' j x. Had g' × (settle_all 12 g' ≡ settle 12 (holes g) x))
view Predicate = a_name (λ g i. Had g) (λ g i g' j x. g' ≡ close_square (grown had (opened i (holes g) (last_read g) ∷ holes g) x))
view PredicateExpr = expression 1
view AbbreviatedAbsoluteLocationPath = expression 9
view AbbreviatedRelativeLocationPath = walk 10
view AbbreviatedStep = walk 11
view AbbreviatedAxisSpecifier = specifier
view Expr = expression 1
view PrimaryExpr = exact
view FunctionCall = exact
view Arguments = a_name (λ g i. Arguing i g) (λ g i g' j x. Argued (below_one (holes g)) i g' x)
view Argument = expression 1
view UnionExpr = expression 8
view PathExpr = expression 9
view FilterExpr = exact
view OrExpr = expression 1
view AndExpr = expression 2
view EqualityExpr = expression 3
view RelationalExpr = expression 4
view AdditiveExpr = expression 5
view MultiplicativeExpr = expression 6
view UnaryExpr = signed

-- ---- the productions

lift :
    (k m d f : ℕ) → T (leb k m) → T (leb d f) → (g : Growth) (i : ℕ) → Operand d g
    → Operand f g × ((g' : Growth) (j : ℕ) (x : Syntax) → Whole m (holes g) i g' x → Whole k (holes g) i g' x)
lift k m d f h l g i (operand {hs = hs} b) = (
  operand (higher d f (top_strength hs) l b),
  (λ g' j x w. record {
    ready = w.ready;
    settles = sym (again k m h g') ∙ (ap (settle_all k) w.settles ∙ twice k m h hs x);
    begins = w.begins;
    there = w.there;
  }),
)

-- two operands with an operator between them
joins :
    (k m f : ℕ) (kd : Kind) (op : Token) → T (leb k m) → leb f k ≡ false → ((i : ℕ) (x : Syntax) → strength (hole kd op i x blank) ≡ k)
    → ((g : Growth) (j : ℕ) → Ready g → grow g j op ≡ join kd op (settle_all k g))
    → (g : Growth) (i : ℕ) → Operand k g
    → Operand k g
    × ((g1 : Growth) (j : ℕ) (x : Syntax) → Whole k (holes g) i g1 x
    → Operand f (grow g1 j op)
    × ((g2 : Growth) (l : ℕ) (y : Syntax) → Whole m (holes (grow g1 j op)) (suc j) g2 y → Whole k (holes g) i g2 (part kd op i x blank y)))
unfolding top_strength join begin is_blank
joins k m f kd op h l st go g i (operand {hs = hs} b) =
    (operand b, (λ g1 j x w. subst⁻¹ (λ (o : Growth). Goal j x o) (moved g1 j x w) (operand (ap (leb f) (st i x) ∙ l), (λ g2 n y v. ended_by g2 n x y j v))))
  where
    Goal : ℕ → Syntax → Growth → Type 0
    Goal j x o = Operand f o × ((g2 : Growth) (l : ℕ) (y : Syntax) → Whole m (holes o) (suc j) g2 y → Whole k hs i g2 (part kd op i x blank y))

    moved : (g1 : Growth) (j : ℕ) (x : Syntax) → Whole k hs i g1 x → grow g1 j op ≡ grown wanted (hole kd op i x blank ∷ hs) blank
    moved g1 j x w =
        go g1 j w.ready
        ∙ (ap (join kd op) (w.settles ∙ stays k hs x b) ∙ ap (λ (n : ℕ). grown wanted (hole kd op n x blank ∷ hs) blank) w.begins)

    ended_by : (g2 : Growth) (n : ℕ) (x y : Syntax) (j : ℕ) → Whole m (hole kd op i x blank ∷ hs) (suc j) g2 y → Whole k hs i g2 (part kd op i x blank y)
    ended_by g2 n x y j v = record {
      ready = v.ready;
      settles = sym (again k m h g2) ∙ (ap (settle_all k) v.settles ∙ (twice k m h (hole kd op i x blank ∷ hs) y ∙ fills k (hole kd op i x blank) hs y (tells (leb k (strength (hole kd op i x blank))) (subst⁻¹ (λ (s : ℕ). T (leb k s)) (st i x) (le→leb k k (omega arith))))));
      begins = refl;
      there = refl;
    }

by_operator : (kd : Kind) (op : Token) (g : Growth) → with_operator kd op g ≡ join kd op (settle_all (tightness op) g)
unfolding with_operator
by_operator kd op (grown due hs x) = refl

by_minus : (g : Growth) (j : ℕ) → Ready g → grow g j '-' ≡ join binary '-' (settle_all 5 g)
unfolding grow with_minus with_operator tightness
by_minus g j ready_had = refl
by_minus g j ready_rooted = refl

by_closing : (g : Growth) (j : ℕ) → Ready g → grow g j closing ≡ close_round (settle_all 1 g)
unfolding grow with_closing
by_closing g j ready_had = refl
by_closing g j ready_rooted = refl

-- an expression in a bracket
by_square : (g : Growth) (j : ℕ) → grow g j ']' ≡ close_square (settle_all 1 g)
unfolding grow with_square
by_square (grown due hs x) j = refl

by_comma : (g : Growth) (j : ℕ) → grow g j comma ≡ close_argument (settle_all 1 g)
unfolding grow with_comma
by_comma (grown due hs x) j = refl

by_slash : (g : Growth) (j : ℕ) → Had g → grow g j '/' ≡ goes_on '/' (settle_all 10 g)
unfolding grow with_slash
by_slash g j is_had = refl

by_slashes : (g : Growth) (j : ℕ) → Had g → grow g j '//' ≡ goes_on '//' (settle_all 10 g)
unfolding grow with_slash
by_slashes g j is_had = refl

-- ---- paths

ready : {g : Growth} → Had g → Ready g
ready is_had = ready_had

begun_none : (i : ℕ) (hs : List Hole) → Below 9 hs → begun i hs ≡ hole relative unknown i blank blank ∷ hs
begun_none i hs b = ap (λ (c : Bool). cond c hs (hole relative unknown i blank blank ∷ hs)) b

begun_below : (m i : ℕ) (hs : List Hole) → T (leb 10 m) → Below m hs → Below m (begun i hs)
unfolding top_strength strength
begun_below m i hs h b = decide (leb 9 (top_strength hs)) refl
  where
    decide : (c : Bool) → leb 9 (top_strength hs) ≡ c → Below m (begun i hs)
    decide true q = subst⁻¹ (Below m) (ap (λ (c : Bool). cond c hs (hole relative unknown i blank blank ∷ hs)) q) b
    decide false q = subst⁻¹ (Below m) (ap (λ (c : Bool). cond c hs (hole relative unknown i blank blank ∷ hs)) q) (higher 10 m 9 h refl)

begun_on : (i : ℕ) (hs : List Hole) → leb 9 (top_strength (begun i hs)) ≡ true
unfolding top_strength strength
begun_on i hs = decide (leb 9 (top_strength hs)) refl
  where
    decide : (c : Bool) → leb 9 (top_strength hs) ≡ c → leb 9 (top_strength (begun i hs)) ≡ true
    decide true q = ap (λ (c : Bool). leb 9 (top_strength (cond c hs (hole relative unknown i blank blank ∷ hs)))) q ∙ q
    decide false q = ap (λ (c : Bool). leb 9 (top_strength (cond c hs (hole relative unknown i blank blank ∷ hs)))) q

-- steps fill the hole of a path that waited for them
under : (h : Hole) (hs : List Hole) (j : ℕ) (g : Growth) (x : Syntax) → strength h ≡ 9 → Walked 10 (h ∷ hs) j g x → settle_all 9 g ≡ settle 9 hs (filled h x)
unfolding top_strength
under h hs j g x e w =
    let nine : leb 9 (strength h) ≡ true = ap (leb 9) e in
    let there : begun j (h ∷ hs) ≡ h ∷ hs = ap (λ (c : Bool). cond c (h ∷ hs) (hole relative unknown j blank blank ∷ h ∷ hs)) nine in
    sym (again 9 10 tt g)
    ∙ (ap (settle_all 9) w.settles ∙ (twice 9 10 tt (begun j (h ∷ hs)) x ∙ (ap (λ (l : List Hole). settle 9 l x) there ∙ fills 9 h hs x nine)))

location :
    (g : Growth) (i : ℕ) → Operand 9 g
    → Stepping 10 g × ((g' : Growth) (j : ℕ) (x : Syntax) → Walked 10 (holes g) i g' x → Whole 9 (holes g) i g' (part relative unknown i blank blank x))
unfolding begin is_blank strength
location g i (operand {hs = hs} b) = (
  step_wanted (higher 9 10 (top_strength hs) tt b),
  (λ g' j x w. record {
    ready = ready w.had_it;
    settles =
        sym (again 9 10 tt g')
        ∙ (ap (settle_all 9) w.settles
        ∙ (twice 9 10 tt (begun i hs) x
        ∙ (ap (λ (l : List Hole). settle 9 l x) (begun_none i hs b) ∙ fills 9 (hole relative unknown i blank blank) hs x refl)));
    begins = refl;
    there = refl;
  }),
)

alone : (g : Growth) (i : ℕ) → Operand 9 g → Whole 9 (holes g) i (grow g i '/') (part absolute '/' i blank blank blank)
unfolding grow with_slash strength begin is_blank
alone g i (operand {hs = hs} b) = record {
  ready = ready_rooted;
  settles = fills 9 (hole absolute '/' i blank blank) hs blank refl;
  begins = refl;
  there = refl;
}

from_root :
    (g : Growth) (i : ℕ) → Operand 9 g
    → Stepping 10 (grow g i '/')
    × ((g' : Growth) (j : ℕ) (x : Syntax) → Walked 10 (holes (grow g i '/')) (suc i) g' x → Whole 9 (holes g) i g' (part absolute '/' i blank blank x))
unfolding grow with_slash strength top_strength begin is_blank
from_root g i (operand {hs = hs} b) = (
  step_rooted refl,
  (λ g' j x w. record {
    ready = ready w.had_it;
    settles = under (hole absolute '/' i blank blank) hs (suc i) g' x refl w;
    begins = refl;
    there = refl;
  }),
)

from_below_root :
    (g : Growth) (i : ℕ) → Operand 9 g
    → Stepping 10 (grow g i '//')
    × ((g' : Growth) (j : ℕ) (x : Syntax) → Walked 10 (holes (grow g i '//')) (suc i) g' x → Whole 9 (holes g) i g' (part absolute '//' i blank blank x))
unfolding grow with_slash strength top_strength begin is_blank
from_below_root g i (operand {hs = hs} b) = (
  step_wanted refl,
  (λ g' j x w. record {
    ready = ready w.had_it;
    settles = under (hole absolute '//' i blank blank) hs (suc i) g' x refl w;
    begins = refl;
    there = refl;
  }),
)

-- a step is a path of one step
walk_lift : (hs : List Hole) (i : ℕ) (g : Growth) (x : Syntax) → Walked 11 hs i g x → Walked 10 hs i g x
walk_lift hs i g x w = record {
  had_it = w.had_it;
  settles = sym (again 10 11 tt g) ∙ (ap (settle_all 10) w.settles ∙ twice 10 11 tt (begun i hs) x);
  begins = w.begins;
}

first_step :
    (g : Growth) (i : ℕ) → Stepping 10 g
    → Stepping 11 g × ((g' : Growth) (j : ℕ) (x : Syntax) → Walked 11 (holes g) i g' x → Walked 10 (holes g) i g' x)
first_step g i (step_wanted {hs = hs} b) = (step_wanted (higher 10 11 (top_strength hs) tt b), (λ g' j x w. walk_lift hs i g' x w))
first_step g i (step_rooted {hs = hs} b) = (step_rooted (higher 10 11 (top_strength hs) tt b), (λ g' j x w. walk_lift hs i g' x w))

-- steps, `/` or `//`, a step
abbrev Linked : Token → List Hole → ℕ → ℕ → Syntax → Growth → Type 0
Linked t hs i j x o = Stepping 11 o × ((g2 : Growth) (l : ℕ) (y : Syntax) → Walked 11 (holes o) (suc j) g2 y → Walked 10 hs i g2 (part chain t i x blank y))

linked :
    (t : Token) → ((g : Growth) (j : ℕ) → Had g → grow g j t ≡ goes_on t (settle_all 10 g)) → (hs : List Hole) → Below 10 hs
    → (i : ℕ) (g1 : Growth) (j : ℕ) (x : Syntax) → Walked 10 hs i g1 x → Linked t hs i j x (grow g1 j t)
unfolding goes_on top_strength strength begin
linked t go hs b i g1 j x w =
    let chained : Hole = hole chain t i x blank in
    let moved : grow g1 j t ≡ grown wanted (chained ∷ begun i hs) blank =
    go g1 j w.had_it
    ∙ (ap (goes_on t) (w.settles ∙ stays 10 (begun i hs) x (begun_below 10 i hs tt b))
    ∙ (ap (λ (c : Bool). grown wanted (hole (cond c chain onward) t (begin x) x blank ∷ begun i hs) blank) (begun_on i hs)
    ∙ ap (λ (n : ℕ). grown wanted (hole chain t n x blank ∷ begun i hs) blank) w.begins)) in
    subst⁻¹ (Linked t hs i j x) moved (
      step_wanted refl,
      (λ g2 l y v. record {
        had_it = v.had_it;
        settles = sym (again 10 11 tt g2) ∙ (ap (settle_all 10) v.settles ∙ (twice 10 11 tt (chained ∷ begun i hs) y ∙ fills 10 chained (begun i hs) y refl));
        begins = refl;
      }),
    )

next_step :
    (t : Token) → ((g : Growth) (j : ℕ) → Had g → grow g j t ≡ goes_on t (settle_all 10 g)) → (g : Growth) (i : ℕ) → Stepping 10 g
    → Stepping 10 g
    × ((g1 : Growth) (j : ℕ) (x : Syntax) → Walked 10 (holes g) i g1 x
    → Stepping 11 (grow g1 j t)
    × ((g2 : Growth) (l : ℕ) (y : Syntax) → Walked 11 (holes (grow g1 j t)) (suc j) g2 y → Walked 10 (holes g) i g2 (part chain t i x blank y)))
next_step t go g i (step_wanted {hs = hs} b) = (step_wanted b, (λ g1 j x w. linked t go hs b i g1 j x w))
next_step t go g i (step_rooted {hs = hs} b) = (step_rooted b, (λ g1 j x w. linked t go hs b i g1 j x w))

-- steps from another expression
abbrev Onward : Token → List Hole → ℕ → ℕ → Syntax → Growth → Type 0
Onward t hs i j x o = Stepping 10 o × ((g2 : Growth) (l : ℕ) (y : Syntax) → Walked 10 (holes o) (suc j) g2 y → Whole 9 hs i g2 (part onward t i x blank y))

leads_on :
    (t : Token) → ((g : Growth) (j : ℕ) → Had g → grow g j t ≡ goes_on t (settle_all 10 g)) → (g : Growth) (i : ℕ) → Operand 9 g
    → Operand 9 g
    × ((g1 : Growth) (j : ℕ) (x : Syntax) → Exact (holes g) i g1 x → Onward t (holes g) i j x (grow g1 j t))
unfolding goes_on top_strength strength begin is_blank
leads_on t go g i (operand {hs = hs} b) = (
  operand b,
  (λ g1 j x w.
      let waits : Hole = hole onward t i x blank in
      let moved : grow g1 j t ≡ grown wanted (waits ∷ hs) blank =
      ap (λ (o : Growth). grow o j t) w.same
      ∙ (go (grown had hs x) j is_had
      ∙ (ap (goes_on t) (stays 10 hs x (higher 9 10 (top_strength hs) tt b))
      ∙ (ap (λ (c : Bool). grown wanted (hole (cond c chain onward) t (begin x) x blank ∷ hs) blank) b
      ∙ ap (λ (n : ℕ). grown wanted (hole onward t n x blank ∷ hs) blank) w.begins))) in
      subst⁻¹ (Onward t hs i j x) moved (
        step_wanted refl,
        (λ g2 l y v. record {
          ready = ready v.had_it;
          settles = under waits hs (suc j) g2 y refl v;
          begins = refl;
          there = refl;
        }),
      )),
)

as_path_lem : (g : Growth) (i : ℕ) → Operand 9 g → Operand 9 g × ((g' : Growth) (j : ℕ) (x : Syntax) → Exact (holes g) i g' x → Whole 9 (holes g) i g' x)
as_path_lem g i p = (
  p,
  (λ g' j x w. record {
    ready = subst⁻¹ Ready w.same ready_had;
    settles = ap (settle_all 9) w.same;
    begins = w.begins;
    there = w.there;
  }),
)

-- ---- predicates

opened_zero : (i : ℕ) (hs : List Hole) (x : Syntax) → strength (opened i hs x) ≡ 0
unfolding strength
opened_zero i hs x = decide (leb 11 (top_strength hs))
  where
    decide : (c : Bool) → strength (cond c (hole word '[' i blank blank) (hole filter unknown (begin x) x blank)) ≡ 0
    decide true = refl
    decide false = refl

by_bracket : (i : ℕ) (hs : List Hole) (x : Syntax) → grow (grown had hs x) i '[' ≡ grown wanted (opened i hs x ∷ hs) blank
unfolding grow with_bracket
by_bracket i hs x = decide (leb 11 (top_strength hs))
  where
    decide :
        (c : Bool)
        → cond c (grown wanted (hole word '[' i blank blank ∷ hs) blank) (grown wanted (hole filter unknown (begin x) x blank ∷ hs) blank)
        ≡ grown wanted (cond c (hole word '[' i blank blank) (hole filter unknown (begin x) x blank) ∷ hs) blank
    decide true = refl
    decide false = refl

abbrev Bracketed : List Hole → ℕ → Syntax → Growth → Type 0
Bracketed hs i x o =
    Operand 1 o
    × ((g1 : Growth) (j : ℕ) (y : Syntax) → Whole 1 (holes o) (suc i) g1 y → grow g1 j ']' ≡ close_square (grown had (opened i hs x ∷ hs) y))

bracketed : (g : Growth) (i : ℕ) → Had g → Bracketed (holes g) i (last_read g) (grow g i '[')
unfolding top_strength
bracketed g i (is_had {hs = hs} {x = x}) =
    let b : Below 1 (opened i hs x ∷ hs) = ap (leb 1) (opened_zero i hs x) in
    subst⁻¹ (Bracketed hs i x) (by_bracket i hs x)
    (operand b, (λ g1 j y w. by_square g1 j ∙ ap close_square (w.settles ∙ stays 1 (opened i hs x ∷ hs) y b)))

filtered :
    (g : Growth) (i : ℕ) → Operand 9 g
    → Operand 9 g
    × ((g1 : Growth) (j : ℕ) (x : Syntax) → Exact (holes g) i g1 x
    → Had g1
    × ((g2 : Growth) (l : ℕ) (y : Syntax) → g2 ≡ close_square (grown had (opened j (holes g1) (last_read g1) ∷ holes g1) y)
    → Exact (holes g) i g2 (part filter unknown i x blank y)))
unfolding close_square for_filter begin is_blank
filtered g i (operand {hs = hs} b) = (
  operand b,
  (λ g1 j x w. (
    subst⁻¹ Had w.same is_had,
    (λ g2 l y e. record {
      same =
          e
          ∙ (ap (λ (o : Growth). close_square (grown had (opened j (holes o) (last_read o) ∷ holes o) y)) w.same
          ∙ (ap (λ (c : Bool). close_square (grown had (cond c (hole word '[' j blank blank) (hole filter unknown (begin x) x blank) ∷ hs) y))
          (higher 9 11 (top_strength hs) tt b)
          ∙ ap (λ (n : ℕ). grown had hs (part filter unknown n x blank y)) w.begins));
      begins = refl;
      there = refl;
    }),
  )),
)

abbrev More : List Hole → ℕ → Syntax → Growth → Type 0
More hs i x o =
    Predicated o
    × ((g2 : Growth) (l : ℕ) (y : Syntax) → Had g2 × (settle_all 12 g2 ≡ settle 12 (holes o) y)
    → Had g2 × (settle_all 12 g2 ≡ settle 12 hs (part predicates unknown i x blank y)))

more :
    (g : Growth) (i : ℕ) → Predicated g
    → Had g
    × ((g1 : Growth) (j : ℕ) (x : Syntax) → g1 ≡ close_square (grown had (opened i (holes g) (last_read g) ∷ holes g) x) → More (holes g) i x g1)
unfolding close_square for_filter top_strength strength
more g i (predicated {hs = hs} p) = (
  is_had,
  (λ g1 j x e.
      let moved : g1 ≡ grown had (hole predicates unknown i x blank ∷ hs) blank =
      e ∙ ap (λ (c : Bool). close_square (grown had (cond c (hole word '[' i blank blank) (hole filter unknown (begin blank) blank blank) ∷ hs) x)) p in
      subst⁻¹ (More hs i x) moved (predicated refl, (λ g2 l y v. (v.0, v.1 ∙ fills 12 (hole predicates unknown i x blank) hs y refl)))),
)

no_more : (g : Growth) (i : ℕ) → Predicated g → Had g × (settle_all 12 g ≡ settle 12 (holes g) blank)
no_more g i (predicated p) = (is_had, refl)

-- ---- steps

abbrev Tested : List Hole → ℕ → Syntax → Syntax → Growth → Type 0
Tested hs i a t o =
    Predicated o
    × ((g3 : Growth) (n : ℕ) (p : Syntax) → Had g3 × (settle_all 12 g3 ≡ settle 12 (holes o) p) → Walked 11 hs i g3 (part step unknown i a t p))

tested_so : (hs : List Hole) (i : ℕ) (a t : Syntax) (o : Growth) → o ≡ grown had (hole step unknown i a t ∷ begun i hs) blank → Tested hs i a t o
unfolding top_strength strength begin
tested_so hs i a t o e =
    let stepped : Hole = hole step unknown i a t in
    subst⁻¹ (Tested hs i a t) e (
      predicated refl,
      (λ g3 n p v. record {
        had_it = v.0;
        settles = sym (again 11 12 tt g3) ∙ (ap (settle_all 11) v.1 ∙ (twice 11 12 tt (stepped ∷ begun i hs) p ∙ fills 11 stepped (begun i hs) p refl));
        begins = refl;
      }),
    )

full_step :
    (g : Growth) (i : ℕ) → Stepping 11 g
    → Stepping 11 g
    × ((g1 : Growth) (j : ℕ) (a : Syntax)
    → Testing g1 × ((test : Syntax) → with_test had j test g1 ≡ grown had (hole step unknown i a test ∷ begun i (holes g)) blank)
    → Testing g1 × ((g2 : Growth) (l : ℕ) (t : Syntax) → g2 ≡ with_test had j t g1 → Tested (holes g) i a t g2))
full_step g i p = (p, (λ g1 j a v. (v.0, (λ g2 l t e. tested_so (holes g) i a t g2 (e ∙ v.1 t)))))

abbrev Specified : Growth → ℕ → Growth → ℕ → Syntax → Type 0
Specified g i g' j x = Testing g' × ((test : Syntax) → with_test had j test g' ≡ grown had (hole step unknown i x test ∷ begun i (holes g)) blank)

with_axis_lem : (g : Growth) (i : ℕ) → Stepping 11 g → Specified g i (grow (grow g i AxisName) (suc i) '::') (suc (suc i)) (part axis AxisName i blank blank blank)
unfolding grow with_axis with_test begin
with_axis_lem g i (step_wanted b) = (test_tested, (λ test. refl))
with_axis_lem g i (step_rooted b) = (test_tested, (λ test. refl))

with_at : (g : Growth) (i : ℕ) → Stepping 11 g → Specified g i (grow g i at) (suc i) (part attribute at i blank blank blank)
unfolding grow with_axis with_test begin
with_at g i (step_wanted b) = (test_tested, (λ test. refl))
with_at g i (step_rooted b) = (test_tested, (λ test. refl))

without_axis : (g : Growth) (i : ℕ) → Stepping 11 g → Specified g i g i blank
unfolding with_test
without_axis g i (step_wanted b) = (test_wanted, (λ test. refl))
without_axis g i (step_rooted b) = (test_rooted, (λ test. refl))

by_name : (g : Growth) (i : ℕ) → Testing g → grow g i NameTest ≡ with_test had i (part named NameTest i blank blank blank) g
unfolding grow
by_name g i p = refl

by_type :
    (g : Growth) (i : ℕ) → Testing g
    → grow (grow (grow g i NodeType) (suc i) opening) (suc (suc i)) closing ≡ with_test had i (part typed NodeType i blank blank blank) g
unfolding grow with_test with_opening with_closing
by_type g i test_wanted = refl
by_type g i test_rooted = refl
by_type g i test_tested = refl

by_instruction :
    (g : Growth) (i : ℕ) → Testing g
    → grow (grow (grow g i 'processing_instruction') (suc i) opening) (suc (suc i)) closing
    ≡ with_test had i (part instruction 'processing_instruction' i blank blank blank) g
unfolding grow with_test with_opening with_closing
by_instruction g i test_wanted = refl
by_instruction g i test_rooted = refl
by_instruction g i test_tested = refl

by_target :
    (g : Growth) (i : ℕ) → Testing g
    → grow (grow (grow (grow g i 'processing_instruction') (suc i) opening) (suc (suc i)) Literal) (suc (suc (suc i))) closing
    ≡ with_test had i (part target 'processing_instruction' i blank blank blank) g
unfolding grow with_test with_opening with_closing with_string begin
by_target g i test_wanted = refl
by_target g i test_rooted = refl
by_target g i test_tested = refl

point : (k : Kind) (t : Token) → ((g : Growth) (i : ℕ) → grow g i t ≡ with_point k t i g) → (g : Growth) (i : ℕ) → Stepping 11 g
    → Walked 11 (holes g) i (grow g i t) (part k t i blank blank blank)
unfolding with_point begin
point k t go g i (step_wanted {hs = hs} {x = x} b) =
    subst⁻¹ (λ (o : Growth). Walked 11 hs i o (part k t i blank blank blank)) (go (grown wanted hs x) i) (record { had_it = is_had; settles = refl; begins = refl })
point k t go g i (step_rooted {hs = hs} {x = x} b) =
    subst⁻¹ (λ (o : Growth). Walked 11 hs i o (part k t i blank blank blank)) (go (grown rooted hs x) i) (record { had_it = is_had; settles = refl; begins = refl })

-- ---- primary expressions

one_token :
    (k : Kind) (t : Token) → ((hs : List Hole) (x : Syntax) (i : ℕ) → grow (grown wanted hs x) i t ≡ grown had hs (part k t i blank blank blank))
    → (g : Growth) (i : ℕ) → Operand 9 g → Exact (holes g) i (grow g i t) (part k t i blank blank blank)
unfolding begin is_blank
one_token k t go g i (operand {hs = hs} {x = x} b) = record { same = go hs x i; begins = refl; there = refl }

in_brackets :
    (g : Growth) (i : ℕ) → Operand 9 g
    → Operand 1 (grow g i opening)
    × ((g1 : Growth) (j : ℕ) (y : Syntax) → Whole 1 (holes (grow g i opening)) (suc i) g1 y
    → Exact (holes g) i (grow g1 j closing) (part group opening i blank blank y))
unfolding grow with_opening top_strength strength close_round for_arguments begin is_blank
in_brackets g i (operand {hs = hs} b) = (
  operand refl,
  (λ g1 j y w. record {
    same = by_closing g1 j w.ready ∙ ap close_round (w.settles ∙ stays 1 (hole group opening i blank blank ∷ hs) y refl);
    begins = refl;
    there = refl;
  }),
)

empty_call :
    (g : Growth) (i : ℕ) → Operand 9 g
    → Exact (holes g) i (grow (grow (grow g i FunctionName) (suc i) opening) (suc (suc i)) closing) (part call FunctionName i blank blank blank)
unfolding grow with_call with_opening with_closing settle strength close_round for_arguments fill begin is_blank
empty_call g i (operand {hs = hs} b) = record { same = refl; begins = refl; there = refl }

full_call :
    (g : Growth) (i : ℕ) → Operand 9 g
    → Arguing (suc (suc i)) (grow (grow g i FunctionName) (suc i) opening)
    × ((g1 : Growth) (j : ℕ) (y : Syntax) → Argued (below_one (holes (grow (grow g i FunctionName) (suc i) opening))) (suc (suc i)) g1 y
    → Exact (holes g) i (grow g1 j closing) (part call FunctionName i blank blank y))
unfolding grow with_call with_opening close_round for_arguments fill begin is_blank
full_call g i (operand {hs = hs} b) = (
  arguing,
  (λ g1 j y w. record {
    same =
        by_closing g1 j w.ready
        ∙ (ap close_round w.settles
        ∙ (ap (λ (c : Bool). grown had hs (part call FunctionName i blank blank (cond c blank (part arguments unknown (suc (suc i)) w.before blank w.last)))) w.there
        ∙ ap (λ (x : Syntax). grown had hs (part call FunctionName i blank blank x)) (sym w.same)));
    begins = refl;
    there = refl;
  }),
)

one_argument :
    (g : Growth) (i : ℕ) → Arguing i g
    → Operand 1 g × ((g' : Growth) (j : ℕ) (x : Syntax) → Whole 1 (holes g) i g' x → Argued (below_one (holes g)) i g' (part arguments unknown i blank blank x))
unfolding top_strength strength
one_argument g i (arguing {hs = hs}) = (
  operand refl,
  (λ g' j x w. record {
    before = blank;
    last = x;
    ready = w.ready;
    settles = w.settles ∙ stays 1 (hole arguments unknown i blank blank ∷ hs) x refl;
    same = refl;
    there = w.there;
  }),
)

abbrev Another : List Hole → ℕ → ℕ → Syntax → Growth → Type 0
Another hs i j x o =
    Operand 1 o × ((g2 : Growth) (l : ℕ) (y : Syntax) → Whole 1 (holes o) (suc j) g2 y → Argued hs i g2 (part arguments unknown i x blank y))

another_argument :
    (g : Growth) (i : ℕ) → Arguing i g
    → Arguing i g × ((g1 : Growth) (j : ℕ) (x : Syntax) → Argued (below_one (holes g)) i g1 x → Another (below_one (holes g)) i j x (grow g1 j comma))
unfolding top_strength strength close_argument
another_argument g i (arguing {hs = hs}) = (
  arguing,
  (λ g1 j x w.
      let moved : grow g1 j comma ≡ grown wanted (hole arguments unknown i x blank ∷ hs) blank =
      by_comma g1 j
      ∙ (ap close_argument w.settles
      ∙ ap (λ (y : Syntax). grown wanted (hole arguments unknown i y blank ∷ hs) blank) (sym w.same)) in
      subst⁻¹ (Another hs i j x) moved (
        operand refl,
        (λ g2 l y v. record {
          before = x;
          last = y;
          ready = v.ready;
          settles = v.settles ∙ stays 1 (hole arguments unknown i x blank ∷ hs) y refl;
          same = refl;
          there = v.there;
        }),
      )),
)

-- a sign before an operand
signs :
    (g : Growth) (i : ℕ) → Operand 8 g
    → Operand 8 (grow g i '-')
    × ((g' : Growth) (j : ℕ) (x : Syntax) → Whole 7 (holes (grow g i '-')) (suc i) g' x → Whole 7 (holes g) i g' (part negative '-' i blank blank x))
unfolding grow with_minus top_strength strength begin is_blank
signs g i (operand {hs = hs} b) = (
  operand refl,
  (λ g' j x w. record {
    ready = w.ready;
    settles = w.settles ∙ fills 7 (hole negative '-' i blank blank) hs x refl;
    begins = refl;
    there = refl;
  }),
)

-- ---- every production keeps its name's promise

every : (n : Symbol) → Every grow view (view n) (productions n) (readings n)
unfolding productions readings made token_of grow tightness strength with_operand with_string
every (the t) = tt
every LocationPath = (location, ((λ g i p. (p, (λ g' j x w. w))), tt))
every AbsoluteLocationPath = (alone, (from_root, ((λ g i p. (p, (λ g' j x w. w))), tt)))
every RelativeLocationPath = (first_step, (next_step '/' by_slash, ((λ g i p. (p, (λ g' j x w. w))), tt)))
every Step = (full_step, ((λ g i p. (p, (λ g' j x w. w))), tt))
every AxisSpecifier = (with_axis_lem, ((λ g i p. (p, (λ g' j x w. w))), tt))
every NodeTest = (by_name, (by_type, (by_instruction, (by_target, tt))))
every Predicates = (no_more, (more, tt))
every Predicate = (bracketed, tt)
every PredicateExpr = ((λ g i p. (p, (λ g' j x w. w))), tt)
every AbbreviatedAbsoluteLocationPath = (from_below_root, tt)
every AbbreviatedRelativeLocationPath = (next_step '//' by_slashes, tt)
every AbbreviatedStep = (point self dot (λ g i. refl), (point parent dots (λ g i. refl), tt))
every AbbreviatedAxisSpecifier = (with_at, (without_axis, tt))
every Expr = ((λ g i p. (p, (λ g' j x w. w))), tt)
every PrimaryExpr = (one_token variable VariableReference (λ hs x i. refl), (in_brackets, (one_token string Literal (λ hs x i. refl), (one_token number Number (λ hs x i. refl), ((λ g i p. (p, (λ g' j x w. w))), tt)))))
every FunctionCall = (empty_call, (full_call, tt))
every Arguments = (one_argument, (another_argument, tt))
every Argument = ((λ g i p. (p, (λ g' j x w. w))), tt)
every UnionExpr = (lift 8 9 8 9 tt tt, (joins 8 9 9 union '|' tt refl (λ i x. refl) (λ g j r. by_operator union '|' g), tt))
every PathExpr = ((λ g i p. (p, (λ g' j x w. w))), (as_path_lem, (leads_on '/' by_slash, (leads_on '//' by_slashes, tt))))
every FilterExpr = ((λ g i p. (p, (λ g' j x w. w))), (filtered, tt))
every OrExpr = (lift 1 2 1 2 tt tt, (joins 1 2 2 binary 'or' tt refl (λ i x. refl) (λ g j r. by_operator binary 'or' g), tt))
every AndExpr = (lift 2 3 2 3 tt tt, (joins 2 3 3 binary 'and' tt refl (λ i x. refl) (λ g j r. by_operator binary 'and' g), tt))
every EqualityExpr = (lift 3 4 3 4 tt tt, (joins 3 4 4 binary '=' tt refl (λ i x. refl) (λ g j r. by_operator binary '=' g), (joins 3 4 4 binary '!=' tt refl (λ i x. refl) (λ g j r. by_operator binary '!=' g), tt)))
every RelationalExpr = (lift 4 5 4 5 tt tt, (joins 4 5 5 binary '<' tt refl (λ i x. refl) (λ g j r. by_operator binary '<' g), (joins 4 5 5 binary '>' tt refl (λ i x. refl) (λ g j r. by_operator binary '>' g), (joins 4 5 5 binary '<=' tt refl (λ i x. refl) (λ g j r. by_operator binary '<=' g), (joins 4 5 5 binary '>=' tt refl (λ i x. refl) (λ g j r. by_operator binary '>=' g), tt)))))
every AdditiveExpr = (lift 5 6 5 6 tt tt, (joins 5 6 6 binary '+' tt refl (λ i x. refl) (λ g j r. by_operator binary '+' g), (joins 5 6 6 binary '-' tt refl (λ i x. refl) by_minus, tt)))
every MultiplicativeExpr = (lift 6 7 6 8 tt tt, (joins 6 7 8 binary MultiplyOperator tt refl (λ i x. refl) (λ g j r. by_operator binary MultiplyOperator g), (joins 6 7 8 binary 'div' tt refl (λ i x. refl) (λ g j r. by_operator binary 'div' g), (joins 6 7 8 binary 'mod' tt refl (λ i x. refl) (λ g j r. by_operator binary 'mod' g), tt))))
every UnaryExpr = (lift 7 8 8 8 tt tt, (signs, tt))

ended_settled : (g : Growth) → ended g ≡ settled (settle_all 1 g)
unfolding ended
ended_settled (grown due hs x) = refl

-- every derivation of a text stands for the computed tree
pub the_tree : (ts : List Token) (d : Sentence ts) → stand_for d 0 ≡ syntax_of ts ∷ []
unfolding syntax_of settled settle top_strength
the_tree ts d =
    let g : Growth = read_all grow (grown wanted [] blank) 0 ts in
    let (x, w, e) =
    reads grow view (λ t. refl) every d (λ g' j xs. (x : Syntax) × Whole 1 [] 0 g' x × (xs ≡ x ∷ [])) (grown wanted [] blank) 0
    (operand refl, (λ g' j x w. (x, w, refl))) in
    e ∙ ap (λ (y : Syntax). y ∷ []) (sym (ended_settled g ∙ ap settled w.settles))

-- so the grammar's trees are unambiguous
pub one_tree : (ts : List Token) (d e : Sentence ts) → stand_for d 0 ≡ stand_for e 0
one_tree ts d e = the_tree ts d ∙ sym (the_tree ts e)
