-- How a machine that reads tokens is proved right over every derivation. Each name of the grammar has a demand on the state before it and a
-- promise of the state behind it and of what it stands for; if each production keeps its name's promise, then so does every derivation.
-- Assumes nothing.
use Prim.Native.Nat.{ℕ, suc}
use mathlib.Core.Path.{◌≡◌, refl, subst, subst⁻¹}
use mathlib.Core.List.{List, [], ◌∷◌, ◌++◌}
use lib.ListN.{get_or}
use Rattle.text.specs.Grammar.{Token, Symbol, the, productions, Among, first, later, Derives, none, token, by}
use Rattle.text.specs.Syntax.{word, Syntax, blank, part, Reading, pass, readings, made, which, past, stand_for, read_all}

-- a symbol is a token, or a name with a demand on a state and a token's number, and a promise of the state and the number behind it
pub data View (G : Type 0) : Type 1 where
  a_token : Token → View G
  a_name : (G → ℕ → Type 0) → (G → ℕ → G → ℕ → Syntax → Type 0) → View G

-- what a symbol asks for before K holds behind it
abbrev pub demand : {G : Type 0} → (G → ℕ → Token → G) → View G → (G → ℕ → Syntax → Type 0) → G → ℕ → Type 0
demand step (a_token t) K g i = K (step g i t) (suc i) (part word t i blank blank blank)
demand {G} step (a_name P Q) K g i = P g i × ((g' : G) (j : ℕ) (x : Syntax) → Q g i g' j x → K g' j x)

-- what symbols ask for, one after the other
abbrev pub wp : {G : Type 0} → (G → ℕ → Token → G) → (Symbol → View G) → List Symbol → (G → ℕ → List Syntax → Type 0) → G → ℕ → Type 0
wp step view [] Q g i = Q g i []
wp step view (n ∷ s) Q g i = demand step (view n) (λ g' j x. wp step view s (λ h k xs. Q h k (x ∷ xs)) g' j) g i

-- a production keeps its name's promise
abbrev pub Kept : {G : Type 0} → (G → ℕ → Token → G) → (Symbol → View G) → View G → List Symbol → Reading → Type 0
Kept step view (a_token t) r d = ⊥
Kept {G} step view (a_name P Q) r d = (g : G) (i : ℕ) → P g i → wp step view r (λ g' j xs. Q g i g' j (made d i xs)) g i

abbrev pub Every : {G : Type 0} → (G → ℕ → Token → G) → (Symbol → View G) → View G → List (List Symbol) → List Reading → Type 0
Every step view v [] ds = Unit {0}
Every step view v (r ∷ l) [] = ⊥
Every step view v (r ∷ l) (d ∷ ds) = Kept step view v r d × Every step view v l ds

taken :
    {G : Type 0} (step : G → ℕ → Token → G) (view : Symbol → View G) (v : View G) {r : List Symbol} {l : List (List Symbol)} (a : Among r l)
    (ds : List Reading) → Every step view v l ds → Kept step view v r (get_or ds (which a) (pass 0))
unfolding which
taken step view v first [] e = absurd e
taken step view v first (d ∷ ds) e = e.0
taken step view v (later a) [] e = absurd e
taken step view v (later a) (d ∷ ds) e = taken step view v a ds e.1

-- reading goes on behind the tokens that were read
pub read_append :
    {G : Type 0} (step : G → ℕ → Token → G) (xs ts : List Token) (g : G) (i : ℕ)
    → read_all step g i (xs ++ ts) ≡ read_all step (read_all step g i xs) (past i xs) ts
unfolding read_all past
read_append step [] ts g i = refl
read_append step (t ∷ xs) ts g i = read_append step xs ts (step g i t) (suc i)

pub past_append : (xs ts : List Token) (i : ℕ) → past i (xs ++ ts) ≡ past (past i xs) ts
unfolding past
past_append [] ts i = refl
past_append (t ∷ xs) ts i = past_append xs ts (suc i)

met :
    {G : Type 0} (step : G → ℕ → Token → G) (view : Symbol → View G) (v : View G) (r : List Symbol) (d : Reading) → Kept step view v r d
    → (K : G → ℕ → Syntax → Type 0) (g g' : G) (i j : ℕ) (xs : List Syntax) → demand step v K g i
    → ((Q : G → ℕ → List Syntax → Type 0) → wp step view r Q g i → Q g' j xs) → K g' j (made d i xs)
met step view (a_token t) r d k K g g' i j xs h run = absurd k
met step view (a_name P Q) r d k K g g' i j xs h run = h.1 g' j (made d i xs) (run (λ h l ys. Q g i h l (made d i ys)) (k g i h.0))

-- where every production keeps its name's promise, the machine reads every derivation as its symbols ask
pub reads :
    {G : Type 0} (step : G → ℕ → Token → G) (view : Symbol → View G) → ((t : Token) → view (the t) ≡ a_token t)
    → ((n : Symbol) → Every step view (view n) (productions n) (readings n)) → {s : List Symbol} {ts : List Token} (d : Derives s ts) (Q : G → ℕ → List Syntax → Type 0) (g : G) (i : ℕ) → wp step view s Q g i
    → Q (read_all step g i ts) (past i ts) (stand_for d i)
unfolding read_all past stand_for
reads step view plain every none Q g i h = h
reads {G} step view plain every (token {t = t} {s = s} d) Q g i h =
    reads step view plain every d (λ o k xs. Q o k (part word t i blank blank blank ∷ xs)) (step g i t) (suc i)
    (subst (λ (v : View G). demand step v (λ g' j x. wp step view s (λ o k xs. Q o k (x ∷ xs)) g' j) g i) (plain t) h)
reads {G} step view plain every (by {n = n} {r = r} {s = s} {xs = xs} {ts = ts} a d e) Q g i h =
    let reading : Reading = get_or (readings n) (which a) (pass 0) in
    let x : Syntax = made reading i (stand_for d i) in
    let there : wp step view s (λ o k ys. Q o k (x ∷ ys)) (read_all step g i xs) (past i xs) =
    met step view (view n) r reading (taken step view (view n) a (readings n) (every n)) (λ g' j y. wp step view s (λ o k ys. Q o k (y ∷ ys)) g' j) g
    (read_all step g i xs) i (past i xs) (stand_for d i) h (λ P k. reads step view plain every d P g i k) in
    let whole : Q (read_all step (read_all step g i xs) (past i xs) ts) (past (past i xs) ts) (x ∷ stand_for e (past i xs)) =
    reads step view plain every e (λ o k ys. Q o k (x ∷ ys)) (read_all step g i xs) (past i xs) there in
    subst⁻¹ (λ (o : G). Q o (past i (xs ++ ts)) (x ∷ stand_for e (past i xs))) (read_append step xs ts g i)
    (subst⁻¹ (λ (k : ℕ). Q (read_all step (read_all step g i xs) (past i xs) ts) k (x ∷ stand_for e (past i xs))) (past_append xs ts i) whole)
