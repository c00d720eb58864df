-- Laws of derivations: productions put to use, and the six levels of binary operators. Two expressions with any binary operator between them are one,
-- and so is an expression after `-`, whatever binds closer.
-- Assumes nothing.
use mathlib.Core.Path.{◌≡◌, refl, sym, ◌∙◌, ap, subst}
use mathlib.Core.List.{List, [], ◌∷◌, ◌++◌, append_assoc, append-nil, cons≢nil, nil≢cons, head-eq_of_cons-eq, tail-eq_of_cons-eq}
use mathlib.Core.Logic.{◌⊎◌, inl, inr}
use Rattle.text.specs.Grammar.{Token, '+', '-', '=', '!=', '<', '<=', '>', '>=', MultiplyOperator, 'and', 'or', 'div', 'mod'}
use Rattle.text.specs.Grammar.{Symbol, the, Predicates, Predicate, UnionExpr, FilterExpr, OrExpr, AndExpr, EqualityExpr, RelationalExpr, AdditiveExpr, MultiplicativeExpr, UnaryExpr, productions, Among, first, later, Derives, none, token, by}

-- a name stands for these tokens
abbrev pub Is : Symbol → List Token → Type 0
Is n x = Derives (n ∷ []) x

pub cast : {s : List Symbol} {x y : List Token} → x ≡ y → Derives s x → Derives s y
cast {s} e d = subst (λ z. Derives s z) e d

-- by one of its productions
pub make : {n : Symbol} {r : List Symbol} {x : List Token} → Among r (productions n) → Derives r x → Is n x
make {x = x} a d = cast (append-nil x) (by a d none)

pub front : {n : Symbol} {s : List Symbol} {x y : List Token} → Is n x → Derives s y → Derives (n ∷ s) (x ++ y)
front (token none) e = token e
front {y = y} (by {xs = xs} a d none) e = cast (ap (λ z. z ++ y) (sym (append-nil xs))) (by a d e)

pub nowhere : {r : List Symbol} {l : List (List Symbol)} → Among r l → l ≡ [] → ⊥
nowhere first e = cons≢nil e
nowhere (later a) e = cons≢nil e

nothing : {z : List Token} → Derives [] z → z ≡ []
nothing none = refl

behind : {t : Token} {s : List Symbol} {z : List Token} → Derives (the t ∷ s) z → (y : List Token) × (z ≡ t ∷ y) × Derives s y
unfolding productions
behind (token {ts = y} d) = (y, refl, d)
behind (by a d e) = absurd (nowhere a refl)

-- ---- levels: N is M, or N, an operator and M

abbrev chain : Symbol → Symbol → List Token → List (List Symbol)
chain N M [] = []
chain N M (t ∷ ops) = (N ∷ the t ∷ M ∷ []) ∷ chain N M ops

-- an operator between two of them makes one
abbrev Join : Symbol → Token → Type 0
Join n t = (x y : List Token) → Is n x → Is n y → Is n (x ++ (t ∷ y))

chained : (N M : Symbol) (ops : List Token) {r : List Symbol} → Among r (chain N M ops) → (t : Token) × (r ≡ N ∷ the t ∷ M ∷ [])
chained N M [] a = absurd (nowhere a refl)
chained N M (t ∷ ops) first = (t, refl)
chained N M (t ∷ ops) (later a) = chained N M ops a

module _ (N M : Symbol) (ops : List Token) (level : productions N ≡ (M ∷ []) ∷ chain N M ops) where
  up : {x : List Token} → Is M x → Is N x
  up d = make (subst (λ l. Among (M ∷ []) l) (sym level) first) d

  Op : Token → Type 0
  Op t = Among (N ∷ the t ∷ M ∷ []) (productions N)

  more : (t : Token) {x y : List Token} → Op t → Is N x → Is M y → Is N (x ++ (t ∷ y))
  unfolding Op
  more t a d e = make a (front d (token e))

  view : {r : List Symbol} → Among r (productions N) → (r ≡ M ∷ []) ⊎ ((t : Token) × (r ≡ N ∷ the t ∷ M ∷ []))
  view {r} a = go (subst (λ l. Among r l) level a)
    where
      go : {q : List Symbol} → Among q ((M ∷ []) ∷ chain N M ops) → (q ≡ M ∷ []) ⊎ ((t : Token) × (q ≡ N ∷ the t ∷ M ∷ []))
      go first = inl refl
      go (later b) = inr (chained N M ops b)

  not_token : (t : Token) → the t ≡ N → ⊥
  unfolding productions
  not_token t e = nil≢cons (ap productions e ∙ level)

  module _ (P : List Token → Type 0) (base : (x : List Token) → Is M x → P x) (step : (x : List Token) (t : Token) (y : List Token) → Op t → P x → Is N x → Is M y → P (x ++ (t ∷ y))) where
    -- what begins with N begins with tokens of which P holds
    taken :
        {s : List Symbol} {x : List Token} → Derives s x → (rest : List Symbol) → s ≡ N ∷ rest
        → (y z : List Token) × (x ≡ y ++ z) × P y × Is N y × Derives rest z
    unfolding Op
    taken none rest e = absurd (nil≢cons e)
    taken (token {t = t} d) rest e = absurd (not_token t (head-eq_of_cons-eq e))
    taken (by {n = n} {r = r} {s = s} {xs = xs} {ts = ts} a d f) rest e =
        let b : Among r (productions N) = subst (λ m. Among r (productions m)) (head-eq_of_cons-eq e) a in
        (xs, ts, refl, go b (view b) (λ q h. taken d q h), make b d, subst (λ q. Derives q ts) (tail-eq_of_cons-eq e) f)
      where
        go : Among r (productions N) → (r ≡ M ∷ []) ⊎ ((t : Token) × (r ≡ N ∷ the t ∷ M ∷ []))
            → ((q : List Symbol) → r ≡ N ∷ q → (y z : List Token) × (xs ≡ y ++ z) × P y × Is N y × Derives q z) → P xs
        go b (inl h) ih = base xs (subst (λ q. Derives q xs) h d)
        go b (inr h) ih =
            let (y, z, eq, p, own, rest') = ih (the h.0 ∷ M ∷ []) h.1 in
            let (w, eq', last) = behind rest' in
            subst P (sym (eq ∙ ap (λ v. y ++ v) eq')) (step y h.0 w (subst (λ q. Among q (productions N)) h.1 b) p own last)

    induction : (x : List Token) → Is N x → P x
    induction x d =
        let (y, z, e, p, own, rest) = taken d [] refl in
        subst P (sym (e ∙ (ap (λ v. y ++ v) (nothing rest) ∙ append-nil y))) p

  -- with what stands on the right of the operator in M, it goes for all of N
  join_right : (t : Token) (x : List Token) → ((y : List Token) → Is M y → Is N (x ++ (t ∷ y))) → (y : List Token) → Is N y → Is N (x ++ (t ∷ y))
  join_right t x base =
      induction (λ y. Is N (x ++ (t ∷ y))) base (λ y u z a p d e. cast (append_assoc x (t ∷ y) (u ∷ z)) (more u a p e))

  join_own : (t : Token) → Op t → Join N t
  join_own t a x y d e = join_right t x (λ z f. more t a d f) y e

  join_closer : (t : Token) → Join M t → Join N t
  join_closer t j x y d e =
      join_right t x (λ z f. induction (λ w. Is N (w ++ (t ∷ z))) (λ w g. up (j w z g f)) (λ w u v a p g h. cast (sym (append_assoc w (u ∷ v) (t ∷ z))) (more u a g (j v z h f))) x d) y e

  minus_closer : ((x : List Token) → Is M x → Is M ('-' ∷ x)) → (x : List Token) → Is N x → Is N ('-' ∷ x)
  minus_closer f = induction (λ x. Is N ('-' ∷ x)) (λ x d. up (f x d)) (λ x t y a p d e. more t a p e)

-- ---- the six levels

or_level : productions OrExpr ≡ (AndExpr ∷ []) ∷ chain OrExpr AndExpr ('or' ∷ [])
unfolding productions
or_level = refl

and_level : productions AndExpr ≡ (EqualityExpr ∷ []) ∷ chain AndExpr EqualityExpr ('and' ∷ [])
unfolding productions
and_level = refl

equality_level : productions EqualityExpr ≡ (RelationalExpr ∷ []) ∷ chain EqualityExpr RelationalExpr ('=' ∷ '!=' ∷ [])
unfolding productions
equality_level = refl

relational_level : productions RelationalExpr ≡ (AdditiveExpr ∷ []) ∷ chain RelationalExpr AdditiveExpr ('<' ∷ '>' ∷ '<=' ∷ '>=' ∷ [])
unfolding productions
relational_level = refl

additive_level : productions AdditiveExpr ≡ (MultiplicativeExpr ∷ []) ∷ chain AdditiveExpr MultiplicativeExpr ('+' ∷ '-' ∷ [])
unfolding productions
additive_level = refl

multiplicative_level : productions MultiplicativeExpr ≡ (UnaryExpr ∷ []) ∷ chain MultiplicativeExpr UnaryExpr (MultiplyOperator ∷ 'div' ∷ 'mod' ∷ [])
unfolding productions
multiplicative_level = refl

under_or : (t : Token) → Join AndExpr t → Join OrExpr t
under_or = join_closer OrExpr AndExpr ('or' ∷ []) or_level

under_and : (t : Token) → Join EqualityExpr t → Join OrExpr t
under_and t j = under_or t (join_closer AndExpr EqualityExpr ('and' ∷ []) and_level t j)

under_equality : (t : Token) → Join RelationalExpr t → Join OrExpr t
under_equality t j = under_and t (join_closer EqualityExpr RelationalExpr ('=' ∷ '!=' ∷ []) equality_level t j)

under_relational : (t : Token) → Join AdditiveExpr t → Join OrExpr t
under_relational t j = under_equality t (join_closer RelationalExpr AdditiveExpr ('<' ∷ '>' ∷ '<=' ∷ '>=' ∷ []) relational_level t j)

under_additive : (t : Token) → Join MultiplicativeExpr t → Join OrExpr t
under_additive t j = under_relational t (join_closer AdditiveExpr MultiplicativeExpr ('+' ∷ '-' ∷ []) additive_level t j)

-- a binary operator between two expressions makes one
pub data Binary : Token → Type 0 where
  or : {t : Token} → Among (OrExpr ∷ the t ∷ AndExpr ∷ []) (productions OrExpr) → Binary t
  and : {t : Token} → Among (AndExpr ∷ the t ∷ EqualityExpr ∷ []) (productions AndExpr) → Binary t
  equality : {t : Token} → Among (EqualityExpr ∷ the t ∷ RelationalExpr ∷ []) (productions EqualityExpr) → Binary t
  relational : {t : Token} → Among (RelationalExpr ∷ the t ∷ AdditiveExpr ∷ []) (productions RelationalExpr) → Binary t
  additive : {t : Token} → Among (AdditiveExpr ∷ the t ∷ MultiplicativeExpr ∷ []) (productions AdditiveExpr) → Binary t
  multiplicative : {t : Token} → Among (MultiplicativeExpr ∷ the t ∷ UnaryExpr ∷ []) (productions MultiplicativeExpr) → Binary t

pub joined : {t : Token} → Binary t → (x y : List Token) → Is OrExpr x → Is OrExpr y → Is OrExpr (x ++ (t ∷ y))
unfolding Op
joined {t} (or a) = join_own OrExpr AndExpr ('or' ∷ []) or_level t a
joined {t} (and a) = under_or t (join_own AndExpr EqualityExpr ('and' ∷ []) and_level t a)
joined {t} (equality a) = under_and t (join_own EqualityExpr RelationalExpr ('=' ∷ '!=' ∷ []) equality_level t a)
joined {t} (relational a) = under_equality t (join_own RelationalExpr AdditiveExpr ('<' ∷ '>' ∷ '<=' ∷ '>=' ∷ []) relational_level t a)
joined {t} (additive a) = under_relational t (join_own AdditiveExpr MultiplicativeExpr ('+' ∷ '-' ∷ []) additive_level t a)
joined {t} (multiplicative a) =
    under_additive t (join_own MultiplicativeExpr UnaryExpr (MultiplyOperator ∷ 'div' ∷ 'mod' ∷ []) multiplicative_level t a)

-- an expression after `-` is one
pub negated : (x : List Token) → Is OrExpr x → Is OrExpr ('-' ∷ x)
unfolding productions
negated =
    minus_closer OrExpr AndExpr ('or' ∷ []) or_level
    (minus_closer AndExpr EqualityExpr ('and' ∷ []) and_level
    (minus_closer EqualityExpr RelationalExpr ('=' ∷ '!=' ∷ []) equality_level
    (minus_closer RelationalExpr AdditiveExpr ('<' ∷ '>' ∷ '<=' ∷ '>=' ∷ []) relational_level
    (minus_closer AdditiveExpr MultiplicativeExpr ('+' ∷ '-' ∷ []) additive_level
    (minus_closer MultiplicativeExpr UnaryExpr (MultiplyOperator ∷ 'div' ∷ 'mod' ∷ []) multiplicative_level
    (λ x d. make (later first) (token d)))))))

-- a union is an expression
pub whole_union : {x : List Token} → Is UnionExpr x → Is OrExpr x
unfolding productions
whole_union d = make first (make first (make first (make first (make first (make first (make first d))))))

-- a filter expression goes on with predicates
abbrev OnlyPredicates : List Symbol → Type 0
OnlyPredicates [] = Unit {0}
OnlyPredicates (n ∷ s) = ((n ≡ Predicate) ⊎ (n ≡ Predicates)) × OnlyPredicates s

only_predicates : {r : List Symbol} → Among r (productions Predicates) → OnlyPredicates r
unfolding productions
only_predicates first = tt
only_predicates (later first) = (inl refl, (inr refl, tt))
only_predicates (later (later a)) = absurd (nowhere a refl)

filtered_by : {s : List Symbol} {x : List Token} → Derives s x → OnlyPredicates s → (f : List Token) → Is FilterExpr f → Is FilterExpr (f ++ x)
unfolding productions
filtered_by none o f h = cast (sym (append-nil f)) h
filtered_by (token d) (inl e, o) f h = absurd (nil≢cons (ap productions e))
filtered_by (token d) (inr e, o) f h = absurd (nil≢cons (ap productions e))
filtered_by (by {xs = xs} {ts = ts} a d e) (inl p, o) f h =
    cast (append_assoc f xs ts) (filtered_by e o (f ++ xs) (make (later first) (front h (subst (λ n. Is n xs) p (make a d)))))
filtered_by (by {r = r} {xs = xs} {ts = ts} a d e) (inr p, o) f h =
    cast (append_assoc f xs ts) (filtered_by e o (f ++ xs) (filtered_by d (only_predicates (subst (λ n. Among r (productions n)) p a)) f h))

pub filtered : {f ps : List Token} → Is FilterExpr f → Is Predicates ps → Is FilterExpr (f ++ ps)
filtered {f} d e = filtered_by e (inr refl, tt) f d
