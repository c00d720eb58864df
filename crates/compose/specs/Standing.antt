-- How the code's registers, slices and arrays stand for the draft of the composing machine (crates/text/specs/Composing.antt): the rows written stand
-- at the front of one slice, a frame takes four numbers of one array and two of another, the bottom frame first.
-- Assumes nothing: these are definitions.
use Rattle.std.specs.Prelude.{ℕ, zero, suc, ◌+◌, ◌-◌, ◌*◌, ◌≤◌, ◌<◌, ◌≡◌, Bool, false, cond, List, [], ◌∷◌, length, get_or, take, eqb, Float}
use Rattle.names.specs.Names.{position}
use Rattle.text.specs.Grammar.{at, NameTest, NodeType, 'processing_instruction', FunctionName, AxisName}
use Rattle.text.specs.Tokens.{code, class_of}
use Rattle.text.specs.Machine.{Mode, operand}
use Rattle.text.specs.Limited.{Source, word_of, function_names, axis_number}
use Rattle.text.specs.Reading.{name_number, type_number}
use Rattle.text.specs.Survey.{mode_after}
use Rattle.text.specs.declared.Sort.TheVariants.{Numeral, Truth}
use Rattle.text.specs.Composing.{Frame, frame, Pen, pen, Desk, desk, Draft, draft, over, truthful, row_of, may_fill, compose_token}
use Rattle.modes.specs.Acts.{modes}
use Rattle.compose.specs.declared.Hand.{Hand}
use Rattle.compose.specs.declared.Bench.{Bench}
use Rattle.compose.specs.declared.State.{State}

-- ---- what stands for what

-- the pen: the rows written are five numbers each
unfoldable pub pen_of : Hand → List ℕ → Pen
pen_of h rows = pen h.link h.sort h.rows (take (5 * h.rows) rows)

-- frame i, from the bottom: its op, link, axis and test stand together, its open brackets elsewhere
unfoldable pub frame_at : List ℕ → List ℕ → ℕ → Frame
frame_at ops opens i =
    frame (get_or ops (4 * i) 0) (get_or ops (4 * i + 1) 0) (get_or ops (4 * i + 2) 0) (get_or ops (4 * i + 3) 0) (get_or opens (2 * i) 0)
    (get_or opens (2 * i + 1) 0)

-- the first n frames, the top one first
unfoldable pub frames_of : List ℕ → List ℕ → ℕ → List Frame
frames_of ops opens zero = []
frames_of ops opens (suc n) = frame_at ops opens n ∷ frames_of ops opens n

unfoldable pub desk_of : Bench → List ℕ → List ℕ → List ℕ → Desk
desk_of b rows ops opens = desk (frames_of ops opens b.height) (pen_of b.hand rows)

-- the mode with a number
abbrev pub mode_of : ℕ → Mode
mode_of m = get_or modes m operand

unfoldable pub draft_of : State → List ℕ → List ℕ → List ℕ → List Float → Draft
draft_of s rows ops opens values = draft (mode_of s.mode) s.axis (take s.literals values) s.deepest
    (desk_of s.bench rows ops opens)

-- ---- what functions promise

-- their lengths: 520 rows and 260 frames, which one token cannot overrun where at most 257 rows are committed before it
abbrev pub row_room : ℕ
row_room = 2600

abbrev pub op_room : ℕ
op_room = 1040

abbrev pub open_room : ℕ
open_room = 520

-- there are no more literals than rows
abbrev pub value_room : ℕ
value_room = 258

-- the pen has done f, with at most k rows more
pub record Penned (h : Hand) (rows : List ℕ) (f : Pen → Pen) (r : Hand) (rows' : List ℕ) (k : ℕ) : Type 0 where
  pub pen_is : pen_of r rows' ≡ f (pen_of h rows)
  pub kept : length rows' ≡ length rows
  pub grown : h.rows ≤ r.rows
  pub most : r.rows ≤ h.rows + k

-- what the rows written and the frames, which become two rows each at most, take
abbrev pub load : Bench → ℕ
load b = b.hand.rows + 2 * b.height

-- the desk has done f, with a load that is at most k more
pub record Worked (b : Bench) (rows ops opens : List ℕ) (f : Desk → Desk) (r : Bench) (rows' ops' opens' : List ℕ) (k : ℕ) : Type 0 where
  pub desk_is : desk_of r rows' ops' opens' ≡ f (desk_of b rows ops opens)
  pub grown : b.hand.rows ≤ r.hand.rows
  pub most : load r ≤ load b + k

-- may the top frame be filled, for an operator that binds so?
unfoldable pub top_fills : ℕ → List Frame → Bool
top_fills k [] = false
top_fills k (f ∷ fs) = may_fill k f

-- the top frame is filled
unfoldable pub filled : Desk → Desk
filled (desk [] p) = desk [] p
filled (desk (f ∷ fs) p) = desk fs (row_of f p)

-- a call's bracket is closed: its frame is the row
unfoldable pub close_call : Desk → Desk
close_call (desk [] p) = desk [] p
close_call (desk (frame op a c d o t ∷ fs) p) =
    cond (eqb op 18) (desk fs (over op Truth (truthful p))) (desk fs (over op Numeral p))

-- one bracket more behind the top frame can be counted
unfoldable pub Countable : ℕ → List ℕ → Type 0
Countable height opens = 0 < height → get_or opens (2 * (height - 1)) 0 < 18446744073709551615

-- what a change of the top frame's brackets does, whatever is in hand
unfoldable pub Opened : (Desk → Desk) → ℕ → List ℕ → List ℕ → Type 0
Opened f height opens opens' =
    (ops : List ℕ) (p : Pen) → desk (frames_of ops opens' height) p ≡ f (desk (frames_of ops opens height) p)

-- ---- tokens

-- the draft has done f, with a load that is at most k more; it has no more literals more than rows
pub record Read (s : State) (rows ops opens : List ℕ) (values : List Float) (f : Draft → Draft) (r : State) (rows' ops' opens' : List ℕ)
    (values' : List Float) (k : ℕ) : Type 0 where
  pub draft_is : draft_of r rows' ops' opens' values' ≡ f (draft_of s rows ops opens values)
  pub grown : s.bench.hand.rows ≤ r.bench.hand.rows
  pub most : load r.bench ≤ load s.bench + k
  pub few : r.literals + s.bench.hand.rows ≤ s.literals + r.bench.hand.rows

-- the number that token i has by its class: the test of a node test, the number of a function or of an axis
unfoldable pub word_number : Source → ℕ → ℕ → ℕ
word_number s i kind =
    cond (eqb kind (code at)) 11
    (cond (eqb kind (code NameTest)) (name_number s i)
    (cond (eqb kind (code NodeType)) (type_number (word_of s i))
    (cond (eqb kind (code 'processing_instruction')) 4
    (cond (eqb kind (code FunctionName)) (position function_names (word_of s i))
    (cond (eqb kind (code AxisName)) (axis_number (word_of s i))
    0)))))

-- a token of a class, with its number, that changes the desk alone: so it goes from d to d'
unfoldable pub Deals : ℕ → ℕ → ℕ → Desk → Desk → Type 0
Deals kind number mode d d' =
    (s : Source) (i x : ℕ) (l : List Float) (deepest : ℕ) → number ≡ word_number s i kind
    → compose_token s (draft (mode_of mode) x l deepest d) i (class_of kind) ≡ draft (mode_after (mode_of mode) (class_of kind)) x l deepest d'

pub record Dealt (kind number mode : ℕ) (b : Bench) (rows ops opens : List ℕ) (r : Bench) (rows' ops' opens' : List ℕ) : Type 0 where
  pub deals : Deals kind number mode (desk_of b rows ops opens) (desk_of r rows' ops' opens')
  pub grown : b.hand.rows ≤ r.hand.rows
  pub most : load r ≤ load b + 4
