-- Reading a text again, token by token: what the next token does to the trail, and that the window holds its levels behind it.
-- Assumes nothing.
use Rattle.text.specs.declared.Run.TheVariants.{Spaces}
use Prim.Native.Nat.{ℕ, zero, suc, ◌+◌, ◌-◌, ◌/◌, ◌%◌, ◌≤◌, ◌<◌}
use native.Mathlib.Omega.{arith}
use native.Mathlib.Numerals.{add-one}
use mathlib.Core.Path.{◌≡◌, refl, sym, ◌∙◌, ap, subst, subst⁻¹}
use mathlib.Core.Bool.{Bool, true, false, ◌&&◌, not, cond, true≢false}
use mathlib.Core.List.{List, [], ◌∷◌}
use mathlib.Core.Logic.{◌⊎◌, inl, inr, ⊎_elim}
use lib.Dec.{T, eqb, ltb, leb}
use lib.ListN.{length, get_or, take}
use borrow.Author.Tests.{lt-ltb, le-leb, leb-true, ltb-true}
use Rattle.meaning.proofs.Bools.{lt_or_ge}
use Rattle.text.specs.declared.Level.{Level}
use Rattle.text.specs.Grammar.{unknown}
use Rattle.text.specs.Machine.{operand, number, Bracket, group, arguments, predicate, Act, refuse, go, enter, leave_round, leave_square, next_argument, rows, has, pick, State, done, next, run, start, is_stuck}
use Rattle.text.specs.Reading.{byte_of}
use Rattle.text.specs.Survey.{fresh}
use Rattle.text.specs.Tokens.{code, class_of, run_end, lexeme, operator_due, Placed, tokens_from, tokens, classes_of}
use Rattle.text.proofs.Cutting.{Cut, Stands, stands_there, cut_start, cut_next, cut_count, cut_class, cut_classes, cut_byte, cut_inside, classes_length, byte_place, byte_end, raw_place}
use Rattle.text.proofs.Lexemes.{choice, both_l, both_r, run_within, lexeme_code}
use Rattle.text.proofs.Machine.{run_append}
use Rattle.modes.specs.Acts.{modes, opened, act_number, act_of}
use Rattle.levels.specs.Levels.{group_of, tightness_of, level_in}
use Rattle.survey.specs.declared.look.Seen.{Seen}
use Rattle.survey.specs.declared.refill.Trace.{Trace}
use Rattle.survey.specs.declared.window.Slot.{Slot}
use Rattle.survey.specs.Window.{span, level_at, stored, Holds}
use Rattle.survey.specs.Looking.{Known, Sees}
use Rattle.survey.specs.Standing.{trail, opened_kind, name_at, trailed, mode_in, kind_at, trail_of, Goes, Small, Smalls, one, Left, Traced, Follows, Refilled}
use Rattle.survey.proofs.Stored.{stored_length, holds_none, holds_stored, holds_passed, holds_closed, holds_top}
use Rattle.survey.proofs.Trail.{Opened, whole_text, bracket, Machine, stands, number_small, implies, implied, all, table_holds, table_says, trailed_goes, trailed_opens, trailed_parts, trailed_closes, trail_is_left, trail_machine, goes_before, small_kept}

-- ---- the next token

-- a text has no more tokens than bytes
few_from : (fuel : ℕ) (text : List ℕ) (i : ℕ) (due : Bool) → length (tokens_from fuel text i due) ≤ fuel
unfolding tokens_from
few_from zero text i due = omega arith
few_from (suc fuel) text i due =
    let f = lexeme text (run_end Spaces text i) due in
    let ih : length (tokens_from fuel text f.end (operator_due f.kind)) ≤ fuel = few_from fuel text f.end (operator_due f.kind) in
    choice (λ (l : List Placed). length l ≤ suc fuel) (ltb (run_end Spaces text i) (length text))
    (λ _. choice (λ (l : List Placed). suc (length l) ≤ suc fuel) (eqb f.kind (code unknown)) (λ _. omega arith) (λ _. omega (arith, ih)))
    (λ _. omega arith)

pub few_tokens : (text : List ℕ) → length (tokens text) ≤ length text
unfolding tokens
few_tokens text = few_from (length text) text 0 false

-- the next token begins behind spaces, and behind the last one the text ends
pub byte_behind : {text : List ℕ} {k i : ℕ} {due : Bool} → Cut text k i due → byte_of text k ≡ run_end Spaces text i
byte_behind {text} {k} {i} {due} c =
    ⊎_elim
    (λ (l : k < length (tokens text)). byte_place text [] k ∙ (raw_place text [] k l ∙ ap (run_end Spaces text) (sym c.ends)))
    (λ (l : length (tokens text) ≤ k).
    let last : k ≡ length (tokens text) = omega (arith, c.count) in
    let spaces : length text ≤ run_end Spaces text i =
    ⊎_elim (λ n. absurd (omega (arith, cut_count c (stands_there text i due n)))) (λ n. n) (lt_or_ge (run_end Spaces text i) (length text)) in
    ap (byte_of text) last ∙ (byte_end text ∙ omega (arith, spaces, run_within Spaces text i c.within)))
    (lt_or_ge k (length (tokens text)))

trail_more :
    (text : List ℕ) (k : ℕ)
    → trail_of text (suc k)
    ≡ trailed text (kind_at text k) (act_of (kind_at text k) (mode_in (trail_of text k))) (byte_of text k) (byte_of text (suc k)) (trail_of text k)
unfolding trail_of
trail_more text k = refl

-- what a token that is taken does, with these levels around
pub record Taken (act : ℕ) (around : List Level) : Type 0 where
  pub some : 0 < act
  pub most : act ≤ 20
  pub closing : 18 ≤ act → 0 < length around

act_taken :
    (a : Act) (bs : List Bracket) → is_stuck (done a bs) ≡ false
    → (0 < act_number a) × (act_number a ≤ 20) × (18 ≤ act_number a → 0 < length bs)
unfolding done is_stuck act_number opened
act_taken refuse bs e = absurd (true≢false e)
act_taken (go m) bs e = let n = number_small m in (omega arith, omega (arith, n), λ h. absurd (omega (arith, n, h)))
act_taken (enter group) bs e = (omega arith, omega arith, λ h. absurd (omega arith))
act_taken (enter arguments) bs e = (omega arith, omega arith, λ h. absurd (omega arith))
act_taken (enter predicate) bs e = (omega arith, omega arith, λ h. absurd (omega arith))
act_taken leave_round [] e = absurd (true≢false e)
act_taken leave_round (b ∷ bs) e = (omega arith, omega arith, λ h. omega arith)
act_taken leave_square [] e = absurd (true≢false e)
act_taken leave_square (b ∷ bs) e = (omega arith, omega arith, λ h. omega arith)
act_taken next_argument [] e = absurd (true≢false e)
act_taken next_argument (b ∷ bs) e = (omega arith, omega arith, λ h. omega arith)

opened_length : {bs : List Bracket} {l : Level} {ls : List Level} → Opened bs l ls → length bs ≡ length ls
opened_length (whole_text h) = refl
opened_length (bracket h b w) = ap suc (opened_length w)

machine_taken :
    {s : State} (k q : ℕ) (l : Level) (ls : List Level) (n : ℕ) → Machine s (trail q l ls n) → is_stuck (next s (class_of k)) ≡ false
    → Taken (act_of k q) ls
unfolding next act_of
machine_taken k q l ls n (stands {bs = bs} w) e =
    let t = act_taken (pick (rows (class_of k)) (get_or modes q operand)) bs e in
    record { some = t.0; most = t.1; closing = λ h. omega (arith, t.2 h, opened_length w) }

goes_is : (text : List ℕ) (k : ℕ) → Goes text k → is_stuck (run start (take k (classes_of text))) ≡ false
unfolding Goes
goes_is text k g = g

-- where no token is refused, none was before
pub goes_until : (text : List ℕ) (k n : ℕ) → k ≤ n → n ≤ length (tokens text) → Goes text n → Goes text k
goes_until text k zero h m g = let e : k ≡ 0 = omega arith in subst⁻¹ (Goes text) e g
goes_until text k (suc n) h m g =
    ⊎_elim
    (λ (l : k < suc n). goes_until text k n (omega arith) (omega arith) (goes_before text n (omega (arith, classes_length text)) g))
    (λ (l : suc n ≤ k). let e : k ≡ suc n = omega arith in subst⁻¹ (Goes text) e g)
    (lt_or_ge k (suc n))

-- what the next token does, where it is taken
act_next :
    {text : List ℕ} {k at : ℕ} {due : Bool} {kind begin end : ℕ} (mode : ℕ) (l : Level) (ls : List Level) (name : ℕ)
    → Cut text k at due → Stands text at due kind begin end → Goes text k → Goes text (k + 1) → trail_of text k ≡ trail mode l ls name
    → Taken (act_of kind mode) ls
unfolding run
act_next {text} {k} {kind = kind} mode l ls name c n g g' e =
    let m : Machine (run start (take k (classes_of text))) (trail mode l ls name) =
    subst (Machine (run start (take k (classes_of text)))) e (trail_machine text k (omega (arith, c.count, classes_length text)) g) in
    let u : is_stuck (next (run start (take k (classes_of text))) (class_of kind)) ≡ false =
    ap is_stuck (sym (ap (run start) (cut_classes c n) ∙ run_append start (take k (classes_of text)) (class_of kind ∷ [])))
    ∙ goes_is text (k + 1) g' in
    machine_taken kind mode l ls name m u

-- what no token is is never taken
unknown_refused : (q : ℕ) → act_of 33 q ≡ 0
unfolding act_of act_number rows pick
unknown_refused q = refl

module _
    {text : List ℕ} {k at : ℕ} {due : Bool} {mode : ℕ} {s : Seen} (c : Cut text k at due) (n : Known text at due mode s) (h : s.kind < 33) where
  not_unknown : s.kind ≡ code unknown → ⊥
  unfolding code
  not_unknown e = omega arith

  pub cut_behind : Cut text (k + 1) s.end (operator_due s.kind)
  cut_behind = cut_next c n.stands not_unknown

  pub kind-at : kind_at text k ≡ s.kind
  unfolding kind_at
  kind-at =
      ap code (cut_class c n.stands unknown)
      ∙ sym (n.stands.kind_is ∙ (lexeme_code text s.begin due ∙ ap (λ (z : ℕ). code (class_of z)) (sym n.stands.kind_is)))

  -- the trail behind the token
  pub trail_next :
      (l : Level) (ls : List Level) (name : ℕ) → trail_of text k ≡ trail mode l ls name
      → trail_of text (k + 1) ≡ trailed text s.kind s.act s.begin s.behind (trail mode l ls name)
  trail_next l ls name e =
      let p : byte_of text (suc k) ≡ s.behind = ap (byte_of text) (sym (add-one k)) ∙ (byte_behind cut_behind ∙ sym n.follows) in
      ap (trail_of text) (add-one k) ∙ (trail_more text k ∙ rw (e, kind-at, ← n.acts, cut_byte c n.stands, p))

-- ---- the mode and the name before a token

-- an operator is due behind `)` and `]`, and not behind `,`
due_fact : ℕ → ℕ → ℕ → Bool
due_fact k q a = implies (leb 18 a) (cond (ltb a 20) (operator_due k) (not (operator_due k)))

every_due : T (all (λ i. due_fact (i / 14) (i % 14) (act_of (i / 14) (i % 14))) 476)
unfolding all due_fact operator_due code act_of act_number opened number rows has pick
every_due = tt

pub bracket_due : (k q : ℕ) → k < 34 → q < 14 → 18 ≤ act_of k q → operator_due k ≡ ltb (act_of k q) 20
unfolding due_fact
bracket_due k q h m a =
    by (ltb (act_of k q) 20) (operator_due k)
    (implied (leb 18 (act_of k q)) (cond (ltb (act_of k q) 20) (operator_due k) (not (operator_due k)))
    (table_holds due_fact every_due k q h m) (le-leb 18 (act_of k q) a))
  where
    by : (b d : Bool) → T (cond b d (not d)) → d ≡ b
    by true true h = refl
    by true false h = absurd h
    by false true h = absurd h
    by false false h = refl

-- ---- one token more

module _ {text : List ℕ} {w : List Slot} {lo hi : ℕ} {t : Trace} (r : Traced text w lo hi t) where
  left_by : Left (length text) t.mode r.level r.around t.name
  left_by = trail_is_left text t.count t.mode r.level r.around t.name r.cut.count r.trails

  pub traced_mode : t.mode < 14
  traced_mode = left_by.mode

  -- a token that is known to be taken can be read
  pub follows :
      {s : Seen} → Goes text (t.count + 1) → t.count < length (tokens text) → Sees text t.at t.due t.mode s
      → Follows text w lo hi t s
  follows {s} g h v = record { traced = r; known = v.known class; class = class; goes = g }
    where
      not_last : s.kind ≡ 34 → ⊥
      not_last e = omega (arith, v.last e, v.begins, cut_inside r.cut h)

      not_unknown : s.kind ≡ 33 → ⊥
      not_unknown e =
          let k = act_next t.mode r.level r.around t.name r.cut (v.unknown e) r.goes g r.trails in
          omega (arith, k.some, ap (λ (z : ℕ). act_of z t.mode) e, unknown_refused t.mode)

      class : s.kind < 33
      class =
          ⊎_elim
          (λ l. l)
          (λ l.
          ⊎_elim (λ i. absurd (not_unknown (omega arith))) (λ i. absurd (not_last (omega (arith, v.class)))) (lt_or_ge s.kind 34))
          (lt_or_ge s.kind 33)

first_small : {n : ℕ} {o : Level} {os : List Level} → Smalls n (o ∷ os) → Small n o
first_small (one h hs) = h

-- the level behind a token, from the one before it
abbrev pub level_behind : Trace → Seen → Level → Level
level_behind t s l = level_in (group_of s.kind) (tightness_of s.kind) t.mode s.behind l

module _ {text : List ℕ} {w : List Slot} {lo hi : ℕ} {t : Trace} {s : Seen} (f : Follows text w lo hi t s) where
  trails_on :
      trail_of text (t.count + 1)
      ≡ trailed text s.kind s.act s.begin s.behind (trail t.mode f.traced.level f.traced.around t.name)
  trails_on = trail_next f.traced.cut f.known f.class f.traced.level f.traced.around t.name f.traced.trails

  pub follows_taken : Taken s.act f.traced.around
  follows_taken =
      subst⁻¹ (λ (a : ℕ). Taken a f.traced.around) f.known.acts
      (act_next t.mode f.traced.level f.traced.around t.name f.traced.cut f.known.stands f.traced.goes f.goes
      f.traced.trails)

  pub follows_room : t.count < length text
  follows_room = omega (arith, cut_count f.traced.cut f.known.stands, few_tokens text)

  -- the name before a call's bracket is a function's
  pub call_named : s.act ≡ 16 → t.name < 6
  call_named e =
      (left_by f.traced).function
      ((table_says s.kind t.mode (omega (arith, f.class)) (traced_mode f.traced)).call_mode (sym f.known.acts ∙ e))

  behind_due : 18 ≤ s.act → operator_due s.kind ≡ ltb s.act 20
  behind_due h =
      rw f.known.acts (bracket_due s.kind t.mode (omega (arith, f.class)) (traced_mode f.traced) (omega (arith, f.known.acts)))

  pub behind_fits : ((level_behind t s t.level).kind < 10) × ((level_behind t s t.level).rank < 3)
  behind_fits =
      let n : ℕ = s.behind + (t.level.e + (t.level.g + t.level.m)) in
      let small : Small n (level_behind t s t.level) =
      small_kept n (group_of s.kind) (tightness_of s.kind) t.mode s.behind t.level (omega arith)
      (record { kind = f.traced.kind; rank = f.traced.rank; e = omega arith; g = omega arith; m = omega arith }) in
      (small.kind, small.rank)

  -- a token that opens and closes nothing
  pub traced_goes :
      (due : Bool) (name : ℕ) (l : Level) → s.act < 15 → due ≡ operator_due s.kind → name ≡ name_at text s.kind s.begin t.name
      → l ≡ level_behind t s t.level
      → Traced text w lo hi (record { count = t.count + 1; at = s.end; due = due; mode = s.act - 1; depth = t.depth; name = name; level = l })
  traced_goes due name l a d m e = record {
    cut = subst⁻¹ (Cut text (t.count + 1) s.end) d (cut_behind f.traced.cut f.known f.class);
    goes = f.goes;
    level = level_behind t s f.traced.level;
    around = f.traced.around;
    trails =
        trails_on
        ∙ (trailed_goes text s.kind s.act s.begin s.behind t.mode f.traced.level f.traced.around t.name a
        ∙ ap (trail (s.act - 1) (level_behind t s f.traced.level) f.traced.around) (sym m));
    deep = f.traced.deep;
    shallow = omega (arith, f.traced.shallow);
    holds = f.traced.holds;
    same = λ i j. e ∙ ap (level_behind t s) (f.traced.same i j);
    kind = rw e behind_fits.0;
    rank = rw e behind_fits.1;
    size = f.traced.size;
    reach = f.traced.reach;
  }

  -- one that opens a level: the level around it is kept, if the window is for it
  pub traced_opens :
      (w' : List Slot) (due : Bool) (mode : ℕ) (o l : Level) → 15 ≤ s.act → s.act < 18 → due ≡ operator_due s.kind
      → mode ≡ cond (eqb s.act 16) 1 0
      → o ≡ level_behind t s t.level
      → l ≡ fresh (opened_kind s.act t.name) s.behind
      → w' ≡ cond (leb lo t.depth && ltb t.depth hi) (stored w t.depth o) w
      → Traced text w' lo hi
      (record { count = t.count + 1; at = s.end; due = due; mode = mode; depth = t.depth + 1; name = t.name; level = l })
  traced_opens w' due mode o l a b d m e u x =
      let inner : Level = fresh (opened_kind s.act t.name) s.behind in
      let levels : List Level = level_behind t s f.traced.level ∷ f.traced.around in
      let trailed-on : trail_of text (t.count + 1) ≡ trail mode inner levels t.name =
      trails_on
      ∙ (trailed_opens text s.kind s.act s.begin s.behind t.mode f.traced.level f.traced.around t.name a b
      ∙ ap (λ (q : ℕ). trail q inner levels t.name) (sym m)) in
      let cut : Cut text (t.count + 1) s.end (operator_due s.kind) = cut_behind f.traced.cut f.known f.class in
      let left = trail_is_left text (t.count + 1) mode inner levels t.name cut.count trailed-on in
      record {
        cut = subst⁻¹ (Cut text (t.count + 1) s.end) d cut;
        goes = f.goes;
        level = inner;
        around = levels;
        trails = trailed-on;
        deep = omega (arith, f.traced.deep);
        shallow = omega (arith, f.traced.shallow);
        holds = subst⁻¹ (λ (v : List Slot). Holds v lo hi levels) x (kept (leb lo t.depth && ltb t.depth hi) refl);
        same = λ i j. u;
        kind = rw u left.small.kind;
        rank = rw u left.small.rank;
        size =
            ap length x
            ∙ choice (λ (v : List Slot). length v ≡ span) (leb lo t.depth && ltb t.depth hi)
            (λ _. stored_length w t.depth o ∙ f.traced.size) (λ _. f.traced.size);
        reach = f.traced.reach;
      }
    where
      kept :
          (b : Bool) → (leb lo t.depth && ltb t.depth hi) ≡ b
          → Holds (cond b (stored w t.depth o) w) lo hi (level_behind t s f.traced.level ∷ f.traced.around)
      kept true y =
          let i : lo ≤ t.depth = leb-true lo t.depth (both_l (leb lo t.depth) (ltb t.depth hi) y) in
          let j : t.depth < hi = ltb-true t.depth hi (both_r (leb lo t.depth) (ltb t.depth hi) y) in
          let same : o ≡ level_behind t s f.traced.level = e ∙ ap (level_behind t s) (f.traced.same i j) in
          let fits : (level_behind t s f.traced.level).rank < 3 =
          subst (λ (z : Level). (level_behind t s z).rank < 3) (f.traced.same i j) behind_fits.1 in
          rw (f.traced.deep, same)
          (holds_stored w lo hi lo hi (level_behind t s f.traced.level) f.traced.around f.traced.size (omega arith)
          (omega (arith, f.traced.deep)) (omega (arith, f.traced.deep, f.traced.reach)) f.traced.holds)
      kept false y = holds_passed w lo hi (level_behind t s f.traced.level) f.traced.around out f.traced.holds
        where
          out : (length f.traced.around < lo) ⊎ (hi ≤ length f.traced.around)
          out =
              ⊎_elim
              (λ (i : t.depth < lo). inl (omega (arith, f.traced.deep)))
              (λ (i : lo ≤ t.depth).
              ⊎_elim
              (λ (j : t.depth < hi). absurd (true≢false (sym (rw (le-leb lo t.depth i, lt-ltb t.depth hi j)) ∙ y)))
              (λ (j : hi ≤ t.depth). inr (omega (arith, f.traced.deep)))
              (lt_or_ge t.depth hi))
              (lt_or_ge t.depth lo)

  -- one that parts two arguments
  pub traced_parts :
      (l : Level) → s.act ≡ 20 → l ≡ fresh 9 s.behind
      → Traced text w lo hi (record { count = t.count + 1; at = s.end; due = false; mode = 0; depth = t.depth; name = t.name; level = l })
  traced_parts l a e = record {
    cut = subst (Cut text (t.count + 1) s.end) (behind_due (omega arith) ∙ rw a) (cut_behind f.traced.cut f.known f.class);
    goes = f.goes;
    level = fresh 9 s.behind;
    around = f.traced.around;
    trails = trails_on ∙ trailed_parts text s.kind s.act s.begin s.behind t.mode f.traced.level f.traced.around t.name a;
    deep = f.traced.deep;
    shallow = omega (arith, f.traced.shallow);
    holds = f.traced.holds;
    same = λ i j. e;
    kind = rw e (omega arith);
    rank = rw e (omega arith);
    size = f.traced.size;
    reach = f.traced.reach;
  }

  -- one that closes a level: the level around it is read again, if the window is for it
  pub traced_closes :
      (l : Level) → 18 ≤ s.act → s.act < 20
      → l ≡ cond (leb lo (t.depth - 1) && ltb (t.depth - 1) hi) (level_at w (t.depth - 1)) t.level
      → Traced text w lo hi (record { count = t.count + 1; at = s.end; due = true; mode = 13; depth = t.depth - 1; name = t.name; level = l })
  traced_closes l a b e = by f.traced.around f.traced.trails f.traced.deep f.traced.holds (follows_taken.closing a)
    where
      by :
          (ls : List Level) → trail_of text t.count ≡ trail t.mode f.traced.level ls t.name → t.depth ≡ length ls → Holds w lo hi ls
          → 0 < length ls
          → Traced text w lo hi (record { count = t.count + 1; at = s.end; due = true; mode = 13; depth = t.depth - 1; name = t.name; level = l })
      by [] c d held p = absurd (omega arith)
      by (o ∷ os) c d held p =
          let level-there : t.depth - 1 ≡ length os = omega (arith, d) in
          let small : Small (length text) o =
          first_small (trail_is_left text t.count t.mode f.traced.level (o ∷ os) t.name f.traced.cut.count c).smalls in
          let top : lo ≤ t.depth - 1 → t.depth - 1 < hi → level_at w (t.depth - 1) ≡ o =
          (λ i j.
          ap (level_at w) level-there ∙ holds_top w lo hi o os (omega (arith, i, level-there)) (omega (arith, j, level-there)) held) in
          let fits : (l.kind < 10) × (l.rank < 3) =
          subst⁻¹ (λ (z : Level). (z.kind < 10) × (z.rank < 3)) e
          (choice (λ (z : Level). (z.kind < 10) × (z.rank < 3)) (leb lo (t.depth - 1) && ltb (t.depth - 1) hi)
          (λ y.
          let i = leb-true lo (t.depth - 1) (both_l (leb lo (t.depth - 1)) (ltb (t.depth - 1) hi) y) in
          let j = ltb-true (t.depth - 1) hi (both_r (leb lo (t.depth - 1)) (ltb (t.depth - 1) hi) y) in
          rw (top i j) (small.kind, small.rank))
          (λ _. (f.traced.kind, f.traced.rank))) in
          record {
            cut = subst (Cut text (t.count + 1) s.end) (behind_due a ∙ lt-ltb s.act 20 b) (cut_behind f.traced.cut f.known f.class);
            goes = f.goes;
            level = o;
            around = os;
            trails =
                trail_next f.traced.cut f.known f.class f.traced.level (o ∷ os) t.name c
                ∙ trailed_closes text s.kind s.act s.begin s.behind t.mode f.traced.level (o ∷ os) t.name a b;
            deep = level-there;
            shallow = omega (arith, f.traced.shallow);
            holds = holds_closed w lo hi o os held;
            same = λ i j. e ∙ (rw (le-leb lo (t.depth - 1) i, lt-ltb (t.depth - 1) hi j) (top i j));
            kind = fits.0;
            rank = fits.1;
            size = f.traced.size;
            reach = f.traced.reach;
          }

-- ---- the whole reading

pub traced_start :
    (text : List ℕ) (w : List Slot) (lo hi : ℕ) (l : Level) → l ≡ fresh 0 (run_end Spaces text 0) → length w ≡ span → hi ≤ lo + span
    → Traced text w lo hi (record { count = 0; at = 0; due = false; mode = 0; depth = 0; name = 0; level = l })
unfolding trail_of Goes run is_stuck
traced_start text w lo hi l e n m =
    let first : byte_of text 0 ≡ run_end Spaces text 0 = byte_behind (cut_start text) in
    record {
      cut = cut_start text;
      goes = refl;
      level = fresh 0 (byte_of text 0);
      around = [];
      trails = refl;
      deep = refl;
      shallow = omega arith;
      holds = holds_none w lo hi;
      same = λ i j. e ∙ ap (fresh 0) (sym first);
      kind = rw e (omega arith);
      rank = rw e (omega arith);
      size = n;
      reach = m;
    }

pub traced_done : {text : List ℕ} {w : List Slot} {lo hi k : ℕ} {t : Trace} → t.count ≡ k → Traced text w lo hi t → Refilled text k w lo hi
unfolding Refilled
traced_done {text} {w} {lo} {hi} {t = t} h c q l ls n e =
    let same : ls ≡ c.around = cc (e, h, c.trails) in
    subst⁻¹ (Holds w lo hi) same c.holds
