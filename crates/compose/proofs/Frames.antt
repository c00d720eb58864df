-- Frames in slices: what stores behind them leave, the frame that is pushed, and the top one as it is filled or closed.
-- Assumes nothing.
use Prim.Native.Nat.{ℕ, zero, suc, ◌+◌, ◌-◌, ◌*◌, ◌<◌, ◌≤◌}
use native.Mathlib.Omega.{arith}
use native.Mathlib.Numerals.{add-one}
use mathlib.Core.Path.{◌≡◌, refl, sym, ◌∙◌, ap}
use mathlib.Core.Bool.{true, false, ◌&&◌, true≢false, cond}
use mathlib.Core.List.{List, [], ◌∷◌}
use lib.ListN.{length, get_or, set, length-set}
use lib.Dec.{eqb, leb}
use lib.Seq.{sets, get_or-set_same, get_or-set_other}
use borrow.Author.Tests.{lt-ltb, eq-eqb, ne_eqb}
use Rattle.text.specs.declared.Sort.TheVariants.{Numeral, Truth, Unheld}
use Rattle.text.specs.Composing.{Frame, frame, Pen, Desk, desk, put, truthful, predicable, strength_of, row_of, may_fill, settle, settled, push, emptied, open_group, open_truth, close_round, close_square, is_path_op, paths_in}
use Rattle.compose.specs.declared.Hand.{Hand}
use Rattle.compose.specs.declared.Bench.{Bench}
use Rattle.compose.specs.Standing.{pen_of, frame_at, frames_of, desk_of, Penned, load, Worked, top_fills, filled, close_call, Opened}
use Rattle.compose.proofs.Rows.{link_in}

-- ---- runs of stores, entry by entry

pub stored_before : (vs l : List ℕ) (i j : ℕ) → j < i → get_or (sets l i vs) j 0 ≡ get_or l j 0
stored_before [] l i j h = refl
stored_before (v ∷ vs) l i j h = stored_before vs (set l i v) (suc i) j (omega arith) ∙ get_or-set_other l i j v 0 (λ e. omega arith)

pub stored_there :
    (vs l : List ℕ) (i k j : ℕ) → j ≡ i + k → k < length vs → i + length vs ≤ length l → get_or (sets l i vs) j 0 ≡ get_or vs k 0
stored_there [] l i k j e h r = absurd (omega arith)
stored_there (v ∷ vs) l i zero j e h r =
    let z : j ≡ i = omega arith in
    rw z (stored_before vs (set l i v) (suc i) i (omega arith) ∙ get_or-set_same l i v 0 (omega arith))
stored_there (v ∷ vs) l i (suc k) j e h r =
    stored_there vs (set l i v) (suc i) k j (omega arith) (omega arith) (omega (arith, length-set l i v))

-- four stores one behind the other
pub four_stores : (l : List ℕ) (i a b c d : ℕ) → set (set (set (set l i a) (i + 1) b) (i + 2) c) (i + 3) d ≡ sets l i (a ∷ b ∷ c ∷ d ∷ [])
four_stores l i a b c d =
    let e₁ : i + 1 ≡ suc i = omega arith in
    let e₂ : i + 2 ≡ suc (suc i) = omega arith in
    let e₃ : i + 3 ≡ suc (suc (suc i)) = omega arith in
    rw (e₁, e₂, e₃)

-- ---- frames

pub frames_top : (ops opens : List ℕ) (n : ℕ) → frames_of ops opens (n + 1) ≡ frame_at ops opens n ∷ frames_of ops opens n
unfolding frames_of
frames_top ops opens n = rw (add-one n)

pub frames_pop : (ops opens : List ℕ) (n : ℕ) → 0 < n → frames_of ops opens n ≡ frame_at ops opens (n - 1) ∷ frames_of ops opens (n - 1)
frames_pop ops opens n h = let e : n ≡ (n - 1) + 1 = omega arith in ap (frames_of ops opens) e ∙ frames_top ops opens (n - 1)

pub frames_none : (ops opens : List ℕ) (n : ℕ) → n ≡ 0 → frames_of ops opens n ≡ []
unfolding frames_of
frames_none ops opens n e = rw e

-- frames are what stands at the front
pub frames_same :
    (ops opens ops' opens' : List ℕ) (n : ℕ) → ((i : ℕ) → i < 4 * n → get_or ops' i 0 ≡ get_or ops i 0)
    → ((i : ℕ) → i < 2 * n → get_or opens' i 0 ≡ get_or opens i 0) → frames_of ops' opens' n ≡ frames_of ops opens n
unfolding frames_of frame_at
frames_same ops opens ops' opens' zero f g = refl
frames_same ops opens ops' opens' (suc n) f g =
    rw (
      f (4 * n) (omega arith),
      f (4 * n + 1) (omega arith),
      f (4 * n + 2) (omega arith),
      f (4 * n + 3) (omega arith),
      g (2 * n)
          (omega arith),
      g (2 * n + 1) (omega arith),
    )
    (ap (λ (l : List Frame). frame_at ops opens n ∷ l)
    (frames_same ops opens ops' opens' n (λ i h. f i (omega arith)) (λ i h. g i (omega arith))))

-- ---- a frame is pushed

module _ (b : Bench) (rows ops opens ops' opens' : List ℕ) (op c d : ℕ) (room : 4 * b.height + 4 ≤ length ops)
    (room' : 2 * b.height + 2 ≤ length opens)
    (e : ops' ≡ sets ops (4 * b.height) (op ∷ b.hand.link ∷ c ∷ d ∷ [])) (f : opens' ≡ sets opens (2 * b.height) (0 ∷ 0 ∷ [])) where
  frame_pushed : frame_at ops' opens' b.height ≡ frame op b.hand.link c d 0 0
  unfolding frame_at
  frame_pushed =
      let h = b.height in
      let vs : List ℕ = op ∷ b.hand.link ∷ c ∷ d ∷ [] in
      rw (e, f)
      (rw (
        stored_there vs ops (4 * h) 0 (4 * h) (omega arith) (omega arith) room,
        stored_there vs ops (4 * h) 1 (4 * h + 1) (omega arith) (omega arith) room,
        stored_there vs ops (4 * h) 2 (4 * h + 2) (omega arith) (omega arith) room,
        stored_there vs ops (4 * h) 3 (4 * h + 3) (omega arith) (omega arith) room,
        stored_there (0 ∷ 0 ∷ []) opens (2 * h) 0 (2 * h) (omega arith) (omega arith) room',
        stored_there (0 ∷ 0 ∷ []) opens (2 * h) 1 (2 * h + 1) (omega arith) (omega arith) room',
      ))

  frames_pushed : frames_of ops' opens' (b.height + 1) ≡ frame op b.hand.link c d 0 0 ∷ frames_of ops opens b.height
  frames_pushed =
      rw (frames_top ops' opens' b.height, frame_pushed)
      (ap (λ (l : List Frame). frame op b.hand.link c d 0 0 ∷ l)
      (frames_same ops opens ops' opens' b.height
      (λ i h. ap (λ (l : List ℕ). get_or l i 0) e ∙ stored_before (op ∷ b.hand.link ∷ c ∷ d ∷ []) ops (4 * b.height) i h)
      (λ i h. ap (λ (l : List ℕ). get_or l i 0) f ∙ stored_before (0 ∷ 0 ∷ []) opens (2 * b.height) i h)))

  pub pushed :
      Worked b rows ops opens (push op c d)
      (record { hand = record { link = 0; sort = Unheld; rows = b.hand.rows }; height = b.height + 1 }) rows
      ops' opens' 2
  unfolding desk_of pen_of push
  pushed =
      record {
        desk_is = ap (λ (l : List Frame). desk l (emptied (pen_of b.hand rows))) frames_pushed;
        grown = omega arith;
        most = omega arith;
      }

-- ---- the top frame is filled

pub top_filled :
    (b : Bench) (rows ops opens rows' : List ℕ) (done : Hand) → 0 < b.height
    → Penned b.hand rows
    (row_of (frame (get_or ops (4 * (b.height - 1)) 0) (get_or ops (4 * (b.height - 1) + 1) 0) (get_or ops (4 * (b.height - 1) + 2) 0)
    (get_or ops (4 * (b.height - 1) + 3) 0) 0 0)) done rows' 2
    → Worked b rows ops opens filled (record { hand = done; height = b.height - 1 }) rows' ops opens 0
unfolding desk_of filled frame_at row_of
top_filled b rows ops opens rows' done h p =
    record {
      desk_is = rw (frames_pop ops opens b.height h) (ap (desk (frames_of ops opens (b.height - 1))) p.pen_is);
      grown = p.grown;
      most = omega (arith, p.most);
    }

-- ---- frames are filled as long as the top one may be

pub settle_more : (k : ℕ) (fs : List Frame) (p : Pen) → top_fills k fs ≡ true → settled k (filled (desk fs p)) ≡ settled k (desk fs p)
unfolding top_fills filled settled settle
settle_more k [] p e = absurd (true≢false (sym e))
settle_more k (f ∷ fs) p e = rw e

pub settle_done : (k : ℕ) (fs : List Frame) (p : Pen) → top_fills k fs ≡ false → desk fs p ≡ settled k (desk fs p)
unfolding top_fills settled settle
settle_done k [] p e = refl
settle_done k (f ∷ fs) p e = rw e

pub fills_none : (k : ℕ) (ops opens : List ℕ) (n : ℕ) → n ≡ 0 → false ≡ top_fills k (frames_of ops opens n)
unfolding top_fills
fills_none k ops opens n e = rw (frames_none ops opens n e)

pub fills_top :
    (k : ℕ) (ops opens : List ℕ) (n : ℕ) → 0 < n
    → (leb k (strength_of (get_or ops (4 * (n - 1)) 0)) && eqb (get_or opens (2 * (n - 1)) 0) 0) ≡ top_fills k (frames_of ops opens n)
unfolding top_fills may_fill frame_at
fills_top k ops opens n h = rw (frames_pop ops opens n h)

pub fills_some : (k : ℕ) (ops opens : List ℕ) (n : ℕ) → top_fills k (frames_of ops opens n) ≡ true → 0 < n
unfolding top_fills frames_of
fills_some k ops opens zero e = absurd (true≢false (sym e))
fills_some k ops opens (suc n) e = omega arith

-- the frames that were filled, as a loop meets them
pub record Settling (k : ℕ) (ops opens rows₀ : List ℕ) (b₀ : Bench) (rows : List ℕ) (b : Bench) : Type 0 where
  pub settles : settled k (desk_of b rows ops opens) ≡ settled k (desk_of b₀ rows₀ ops opens)
  pub grown : b₀.hand.rows ≤ b.hand.rows
  pub most : load b ≤ load b₀
  pub kept : length rows ≡ length rows₀

module _ {k : ℕ} {ops opens rows₀ : List ℕ} {b₀ : Bench} where
  pub settling_start : Settling k ops opens rows₀ b₀ rows₀ b₀
  settling_start = record { settles = refl; grown = omega arith; most = omega arith; kept = refl }

  module _ {rows : List ℕ} {b : Bench} (s : Settling k ops opens rows₀ b₀ rows b) where
    pub settling_more :
        {rows' : List ℕ} {r : Bench} → top_fills k (frames_of ops opens b.height) ≡ true → Worked b rows ops opens filled r rows' ops
        opens 0
        → length rows' ≡ length rows → Settling k ops opens rows₀ b₀ rows' r
    unfolding desk_of
    settling_more e w l =
        record {
          settles = ap (settled k) w.desk_is ∙ settle_more k (frames_of ops opens b.height) (pen_of b.hand rows) e ∙ s.settles;
          grown = omega (arith, s.grown, w.grown);
          most = omega (arith, s.most, w.most);
          kept = l ∙ s.kept;
        }

    pub settling_done :
        top_fills k (frames_of ops opens b.height) ≡ false → Worked b₀ rows₀ ops opens (settled k) b rows ops opens 0
    unfolding desk_of
    settling_done e =
        record {
          desk_is = settle_done k (frames_of ops opens b.height) (pen_of b.hand rows) e ∙ s.settles;
          grown = s.grown;
          most = omega (arith, s.most);
        }

-- ---- the top frame's brackets

module _ (ops opens opens' : List ℕ) (n : ℕ) (h : 0 < n) (same : (i : ℕ) → i < 2 * (n - 1) → get_or opens' i 0 ≡ get_or opens i 0) where
  -- the frames where nothing else has changed
  frames_with :
      (o t : ℕ) → get_or opens' (2 * (n - 1)) 0 ≡ o → get_or opens' (2 * (n - 1) + 1) 0 ≡ t
      → frames_of ops opens' n
      ≡ frame (get_or ops (4 * (n - 1)) 0) (get_or ops (4 * (n - 1) + 1) 0) (get_or ops (4 * (n - 1) + 2) 0) (get_or ops (4 * (n - 1) + 3) 0) o t
      ∷ frames_of ops opens (n - 1)
  unfolding frame_at
  frames_with o t e f =
      rw (frames_pop ops opens' n h, e, f, frames_same ops opens ops opens' (n - 1) (λ i l. refl) same)

module _ (opens : List ℕ) (n v : ℕ) (h : 0 < n) where
  set_before : (i : ℕ) → i < 2 * (n - 1) → get_or (set opens (2 * (n - 1)) v) i 0 ≡ get_or opens i 0
  set_before i l = get_or-set_other opens (2 * (n - 1)) i v 0 (λ e. omega arith)

  frames_set :
      (ops : List ℕ) → 2 * (n - 1) < length opens
      → frames_of ops (set opens (2 * (n - 1)) v) n
      ≡ frame (get_or ops (4 * (n - 1)) 0) (get_or ops (4 * (n - 1) + 1) 0) (get_or ops (4 * (n - 1) + 2) 0) (get_or ops (4 * (n - 1) + 3) 0) v
      (get_or opens (2 * (n - 1) + 1) 0) ∷ frames_of ops opens (n - 1)
  frames_set ops l =
      frames_with ops opens (set opens (2 * (n - 1)) v) n h set_before v (get_or opens (2 * (n - 1) + 1) 0)
      (get_or-set_same opens (2 * (n - 1)) v 0 l)
      (get_or-set_other opens (2 * (n - 1)) (2 * (n - 1) + 1) v 0 (λ e. omega arith))

pub opened_none : (f : Desk → Desk) (n : ℕ) (opens : List ℕ) → ((p : Pen) → desk [] p ≡ f (desk [] p)) → n ≡ 0 → Opened f n opens opens
unfolding Opened
opened_none f n opens e z ops p = rw (frames_none ops opens n z) (e p)

pub opened_group :
    (n : ℕ) (opens : List ℕ) → 0 < n → 2 * (n - 1) < length opens
    → Opened open_group n opens (set opens (2 * (n - 1)) (get_or opens (2 * (n - 1)) 0 + 1))
unfolding Opened open_group frame_at
opened_group n opens h l ops p = rw (frames_set opens n (get_or opens (2 * (n - 1)) 0 + 1) h ops l, frames_pop ops opens n h)

pub opened_truth :
    (n : ℕ) (opens opens' : List ℕ) → 0 < n → 2 * (n - 1) + 2 ≤ length opens
    → opens' ≡ sets opens (2 * (n - 1)) ((get_or opens (2 * (n - 1)) 0 + 1) ∷ (get_or opens (2 * (n - 1)) 0 + 1) ∷ []) → Opened open_truth n
    opens opens'
unfolding Opened open_truth frame_at
opened_truth n opens opens' h l e ops p =
    let at = 2 * (n - 1) in
    let o = get_or opens (2 * (n - 1)) 0 + 1 in
    let vs : List ℕ = o ∷ o ∷ [] in
    rw (
      frames_with ops opens opens' n h (λ i k. ap (λ (l : List ℕ). get_or l i 0) e ∙ stored_before vs opens at i k) o o
          (ap (λ (l : List ℕ). get_or l at 0) e ∙ stored_there vs opens at 0 at (omega arith) (omega arith) l)
          (ap (λ (l : List ℕ). get_or l (at + 1) 0) e ∙ stored_there vs opens at 1 (at + 1) (omega arith) (omega arith) l),
      frames_pop ops opens n h,
    )

-- ---- brackets close

on_desk : {fs : List Frame} {p q : Pen} → p ≡ q → desk fs p ≡ desk fs q
on_desk {fs} e = ap (desk fs) e

module _ (b : Bench) (rows ops opens rows' : List ℕ) where
  -- there is no frame
  pub closed_none :
      (f : Desk → Desk) (k : ℕ) → ((p : Pen) → desk [] p ≡ f (desk [] p)) → b.height ≡ 0 → Worked b rows ops opens f b rows ops opens k
  unfolding desk_of
  closed_none f k e z =
      record { desk_is = rw (frames_none ops opens b.height z) (e (pen_of b.hand rows)); grown = omega arith; most = omega arith }

  module _ (h : 0 < b.height) where
    -- a group's, or that of boolean()
    pub group_closed :
        (r : Hand) (f : Pen → Pen) → 2 * (b.height - 1) < length opens → 0 < get_or opens (2 * (b.height - 1)) 0 → Penned b.hand rows f
        r rows' 1
        → f (pen_of b.hand rows)
        ≡ cond (eqb (get_or opens (2 * (b.height - 1)) 0) (get_or opens (2 * (b.height - 1) + 1) 0)) (truthful (pen_of b.hand rows))
        (pen_of b.hand rows)
        → Worked b rows ops opens close_round (record { hand = r; height = b.height }) rows' ops
        (set opens (2 * (b.height - 1)) (get_or opens (2 * (b.height - 1)) 0 - 1)) 2
    unfolding desk_of close_round frame_at
    group_closed r f l o p e =
        record {
          desk_is =
              rw (
                frames_set opens b.height (get_or opens (2 * (b.height - 1)) 0 - 1) h ops l,
                frames_pop ops opens b.height h,
                lt-ltb 0 (get_or opens (2 * (b.height - 1)) 0) o,
              )
              (on_desk (p.pen_is ∙ e));
          grown = p.grown;
          most = omega (arith, p.most);
        }

    -- that of a call
    pub call_closes : get_or opens (2 * (b.height - 1)) 0 ≡ 0 → close_call (desk_of b rows ops opens) ≡ close_round (desk_of b rows ops opens)
    unfolding desk_of close_round close_call frame_at
    call_closes e = rw (frames_pop ops opens b.height h, e)

    pub not_closed :
        (t done : Hand) (rows₁ : List ℕ) → get_or ops (4 * (b.height - 1)) 0 ≡ 18 → Penned b.hand rows truthful t rows₁ 1
        → Penned t rows₁ (put (get_or ops (4 * (b.height - 1)) 0) t.link 0 0 0 Truth) done rows' 1
        → Worked b rows ops opens close_call (record { hand = done; height = b.height - 1 }) rows' ops opens 0
    unfolding desk_of close_call frame_at
    not_closed t done rows₁ e p q =
        record {
          desk_is =
              rw (frames_pop ops opens b.height h, eq-eqb (get_or ops (4 * (b.height - 1)) 0) 18 e)
              (on_desk (q.pen_is ∙ link_in (λ l. put (get_or ops (4 * (b.height - 1)) 0) l 0 0 0 Truth) t rows₁ _ p.pen_is));
          grown = omega (arith, p.grown, q.grown);
          most = omega (arith, p.most, q.most);
        }

    pub count_closed :
        (done : Hand) → (get_or ops (4 * (b.height - 1)) 0 ≡ 18 → ⊥)
        → Penned b.hand rows (put (get_or ops (4 * (b.height - 1)) 0) b.hand.link 0 0 0 Numeral) done rows' 1
        → Worked b rows ops opens close_call (record { hand = done; height = b.height - 1 }) rows' ops opens 0
    unfolding desk_of close_call frame_at
    count_closed done e p =
        record {
          desk_is =
              rw (frames_pop ops opens b.height h, ne_eqb (get_or ops (4 * (b.height - 1)) 0) 18 e)
              (on_desk (p.pen_is ∙ link_in (λ l. put (get_or ops (4 * (b.height - 1)) 0) l 0 0 0 Numeral) b.hand rows _ refl));
          grown = p.grown;
          most = omega (arith, p.most);
        }

    -- that of a predicate
    pub square_closed :
        (m done : Hand) (rows₁ : List ℕ) → Penned b.hand rows predicable m rows₁ 1
        → Penned m rows₁ (put (get_or ops (4 * (b.height - 1)) 0) (get_or ops (4 * (b.height - 1) + 1) 0) m.link 0 0 Unheld) done rows' 1
        → Worked b rows ops opens close_square (record { hand = done; height = b.height - 1 }) rows' ops opens 0
    unfolding desk_of close_square frame_at
    square_closed m done rows₁ p q =
        record {
          desk_is =
              rw (frames_pop ops opens b.height h)
              (on_desk
              (q.pen_is
              ∙ link_in (λ l. put (get_or ops (4 * (b.height - 1)) 0) (get_or ops (4 * (b.height - 1) + 1) 0) l 0 0 Unheld) m rows₁ _
              p.pen_is));
          grown = omega (arith, p.grown, q.grown);
          most = omega (arith, p.most, q.most);
        }

-- ---- paths to come

pub paths_none : (ops opens : List ℕ) → 0 ≡ paths_in (frames_of ops opens 0)
unfolding frames_of paths_in
paths_none ops opens = refl

pub paths_more :
    (ops opens : List ℕ) (i : ℕ) → paths_in (frames_of ops opens (i + 1)) ≡ cond (is_path_op (get_or ops (4 * i) 0)) 1 0 + paths_in
    (frames_of ops opens i)
unfolding paths_in frame_at
paths_more ops opens i = rw (frames_top ops opens i)

-- a frame is a path to come, or it is not
pub paths_one :
    (ops opens : List ℕ) (i count : ℕ) → count ≡ paths_in (frames_of ops opens i) → is_path_op (get_or ops (4 * i) 0) ≡ true
    → count + 1 ≡ paths_in (frames_of ops opens (i + 1))
paths_one ops opens i count e t = rw (paths_more ops opens i, t) (omega arith)

pub paths_other :
    (ops opens : List ℕ) (i count : ℕ) → count ≡ paths_in (frames_of ops opens i) → is_path_op (get_or ops (4 * i) 0) ≡ false
    → count ≡ paths_in (frames_of ops opens (i + 1))
paths_other ops opens i count e t = rw (paths_more ops opens i, t) (omega arith)

-- the same done by another name
pub worked_as :
    {b r : Bench} {rows ops opens rows' ops' opens' : List ℕ} {f : Desk → Desk} {k : ℕ} (g : Desk → Desk) (j : ℕ)
    → Worked b rows ops opens f r rows' ops' opens' k → f (desk_of b rows ops opens) ≡ g (desk_of b rows ops opens) → k ≤ j
    → Worked b rows ops opens g r rows' ops' opens' j
worked_as g j w e l = record { desk_is = w.desk_is ∙ e; grown = w.grown; most = omega (arith, w.most) }
