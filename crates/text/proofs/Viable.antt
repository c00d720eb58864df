-- A text of the grammar goes on with these tokens exactly where the machine is not stuck after them: from every mode it can be led to the end
-- of an operand, and then every open bracket can be closed. So the machine stops at the place of the refusal.
-- Assumes nothing.
use Prim.Native.Nat.{ℕ, zero, suc, ◌≤◌, ◌<◌}
use mathlib.Core.Path.{◌≡◌, refl, sym, ◌∙◌, ap, subst}
use mathlib.Core.Bool.{Bool, true, false, cond, true≢false}
use mathlib.Core.List.{List, [], ◌∷◌, ◌++◌, append_assoc}
use mathlib.Core.Logic.{◌↔◌}
use lib.Dec.{T}
use lib.ListN.{length, take}
use native.Mathlib.Omega.{arith}
use Rattle.text.specs.Grammar.{Token, opening, closing, ']', '::', NameTest}
use Rattle.text.specs.Machine.{inner, Mode, operand, argument, union, root, step, axis, test, type, empty, instruction, target, call, whole, part, number, ending, Bracket, group, arguments, predicate, rows, has, pick, State, stuck, reading, done, next, run, start, accepting, is_stuck, accepts, readable}
use Rattle.text.specs.Grammar.{Sentence, Viable, Longest}
use Rattle.text.proofs.Machine.{each, run_append, run_stuck}
use Rattle.text.proofs.Complete.{sentence_accepted}
use Rattle.text.proofs.Sound.{accepted_sentence}

-- ---- every state leads to an end

-- what makes an operand whole
unfoldable pub finish : Mode → List Token
finish operand = NameTest ∷ []
finish argument = NameTest ∷ []
finish union = NameTest ∷ []
finish root = []
finish step = NameTest ∷ []
finish axis = '::' ∷ NameTest ∷ []
finish test = NameTest ∷ []
finish type = opening ∷ closing ∷ []
finish empty = closing ∷ []
finish instruction = opening ∷ closing ∷ []
finish target = closing ∷ []
finish call = opening ∷ closing ∷ []
finish whole = []
finish part = []

finishes : (m : Mode) (around : List Bracket) → (k : Mode) × (run (reading m around) (finish m) ≡ reading k around) × T (has ending k)
unfolding finish run next done inner pick rows has number
finishes operand around = (part, refl, tt)
finishes argument around = (part, refl, tt)
finishes union around = (part, refl, tt)
finishes root around = (root, refl, tt)
finishes step around = (part, refl, tt)
finishes axis around = (part, refl, tt)
finishes test around = (part, refl, tt)
finishes type around = (part, refl, tt)
finishes empty around = (part, refl, tt)
finishes instruction around = (part, refl, tt)
finishes target around = (part, refl, tt)
finishes call around = (part, refl, tt)
finishes whole around = (whole, refl, tt)
finishes part around = (part, refl, tt)

-- what closes a bracket, and all brackets
unfoldable pub close : Bracket → Token
close group = closing
close arguments = closing
close predicate = ']'

closed : (b : Bracket) (around : List Bracket) (k : Mode) → T (has ending k) → next (reading k (b ∷ around)) (close b) ≡ reading part around
unfolding close next done inner pick rows has number
closed group around k = each (λ k. next (reading k (group ∷ around)) closing ≡ reading part around) ending k (refl, (refl, (refl, tt)))
closed arguments around k = each (λ k. next (reading k (arguments ∷ around)) closing ≡ reading part around) ending k (refl, (refl, (refl, tt)))
closed predicate around k = each (λ k. next (reading k (predicate ∷ around)) ']' ≡ reading part around) ending k (refl, (refl, (refl, tt)))

unfoldable pub shut : List Bracket → List Token
shut [] = []
shut (b ∷ around) = close b ∷ shut around

ends : (around : List Bracket) (k : Mode) → T (has ending k) → T (accepting (run (reading k around) (shut around)))
unfolding shut run accepting has number
ends [] k h = h
ends (b ∷ around) k h = subst (λ s. T (accepting (run s (shut around)))) (sym (closed b around k h)) (ends around part tt)

-- what leads a mode to an end
pub completed : (m : Mode) (around : List Bracket) → T (accepting (run (reading m around) (finish m ++ shut around)))
completed m around =
    let (k, ran, h) = finishes m around in
    subst (λ s. T (accepting s)) (sym (run_append (reading m around) (finish m) (shut around) ∙ ap (λ s. run s (shut around)) ran)) (ends around k h)

completion : (s : State) → is_stuck s ≡ false → (rest : List Token) × T (accepting (run s rest))
unfolding is_stuck
completion stuck e = absurd (subst T e tt)
completion (reading m around) e = (finish m ++ shut around, completed m around)

-- ---- viable beginnings

pub not_stuck_viable : (ts : List Token) → is_stuck (run start ts) ≡ false → Viable ts
not_stuck_viable ts e =
    let (rest, h) = completion (run start ts) e in
    (rest, accepted_sentence (ts ++ rest) (subst (λ s. T (accepting s)) (sym (run_append start ts rest)) h))

stays : (s : State) (rest : List Token) → T (accepting (run s rest)) → is_stuck s ≡ false
unfolding is_stuck accepting
stays stuck rest h = absurd (subst (λ s. T (accepting s)) (run_stuck rest) h)
stays (reading m around) rest h = refl

pub viable_not_stuck : (ts : List Token) → Viable ts → is_stuck (run start ts) ≡ false
viable_not_stuck ts (rest, d) = stays (run start ts) rest (subst (λ s. T (accepting s)) (run_append start ts rest) (sentence_accepted (ts ++ rest) d))

-- ---- the place of a refusal

readable_fits : (s : State) (ts : List Token) → readable s ts ≤ length ts
unfolding readable
readable_fits s [] = omega arith
readable_fits s (t ∷ ts) = by_test (is_stuck (next s t)) (readable_fits (next s t) ts)
  where
    by_test : (b : Bool) → readable (next s t) ts ≤ length ts → cond b 0 (suc (readable (next s t) ts)) ≤ suc (length ts)
    by_test true h = omega arith
    by_test false h = omega arith

readable_alive : (s : State) (ts : List Token) → is_stuck s ≡ false → is_stuck (run s (take (readable s ts) ts)) ≡ false
unfolding readable run
readable_alive s [] e = e
readable_alive s (t ∷ ts) e = by_test (is_stuck (next s t)) refl (readable_alive (next s t) ts)
  where
    by_test :
        (b : Bool) → is_stuck (next s t) ≡ b → (is_stuck (next s t) ≡ false → is_stuck (run (next s t) (take (readable (next s t) ts) ts)) ≡ false)
        → is_stuck (run s (take (cond b 0 (suc (readable (next s t) ts))) (t ∷ ts))) ≡ false
    by_test true h f = e
    by_test false h f = f h

readable_stops : (s : State) (ts : List Token) → readable s ts < length ts → is_stuck (run s (take (suc (readable s ts)) ts)) ≡ true
unfolding readable run
readable_stops s [] h = absurd (omega arith)
readable_stops s (t ∷ ts) h = by_test (is_stuck (next s t)) refl h (readable_stops (next s t) ts)
  where
    by_test :
        (b : Bool) → is_stuck (next s t) ≡ b → cond b 0 (suc (readable (next s t) ts)) < suc (length ts)
        → (readable (next s t) ts < length ts → is_stuck (run (next s t) (take (suc (readable (next s t) ts)) ts)) ≡ true)
        → is_stuck (run s (take (suc (cond b 0 (suc (readable (next s t) ts)))) (t ∷ ts))) ≡ true
    by_test true e h f = e
    by_test false e h f = f (omega arith)

-- the machine stops at the place of the refusal
pub machine_stops : (ts : List Token) → Longest ts (readable start ts)
unfolding is_stuck
machine_stops ts =
    record {
      fits = readable_fits start ts;
      viable = not_stuck_viable (take (readable start ts) ts) (readable_alive start ts refl);
      stops = λ h v. true≢false (sym (readable_stops start ts h) ∙ viable_not_stuck (take (suc (readable start ts)) ts) v);
    }

beginning_of : (i j : ℕ) (ts : List Token) → i ≤ j → (rest : List Token) × (take j ts ≡ take i ts ++ rest)
beginning_of zero j ts h = (take j ts, refl)
beginning_of (suc i) zero ts h = absurd (omega arith)
beginning_of (suc i) (suc j) [] h = ([], refl)
beginning_of (suc i) (suc j) (t ∷ ts) h = let (rest, e) = beginning_of i j ts (omega arith) in (rest, ap (λ l. t ∷ l) e)

pub viable_before : (i j : ℕ) (ts : List Token) → i ≤ j → Viable (take j ts) → Viable (take i ts)
viable_before i j ts h (rest, d) =
    let (more, e) = beginning_of i j ts h in
    (more ++ rest, subst (λ l. Sentence l) (ap (λ l. l ++ rest) e ∙ append_assoc (take i ts) more rest) d)

not_later : (ts : List Token) (n m : ℕ) → Longest ts n → Longest ts m → n < m → ⊥
not_later ts n m a b h = a.stops (omega (arith, b.fits)) (viable_before (suc n) m ts h b.viable)

-- there is one such place
pub one_longest : (ts : List Token) (n m : ℕ) → Longest ts n → Longest ts m → n ≡ m
one_longest ts n m a b =
    let p : ¬ (n < m) = not_later ts n m a b in
    let q : ¬ (m < n) = not_later ts m n b a in
    omega arith

-- the machine accepts exactly the texts of the grammar
pub accepts_exactly : (ts : List Token) → T (accepts ts) ↔ Sentence ts
accepts_exactly ts = (accepted_sentence ts, sentence_accepted ts)
