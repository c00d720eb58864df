-- Where a reading of a text stands behind its first k tokens: the trail of levels, which alone is read again; and with it the survey, the
-- grammar's machine and the window.
-- Assumes nothing: these are definitions.
use Rattle.std.specs.Prelude.{ℕ, zero, suc, ◌+◌, ◌-◌, ◌≤◌, ◌<◌, ◌≡◌, Bool, true, false, ◌&&◌, ◌||◌, not, cond, List, [], ◌∷◌, T, eqb, ltb, leb, length, get_or, take, Option, None, Some}
use Rattle.names.specs.Names.{position}
use Rattle.text.specs.declared.Fault.{Fault}
use Rattle.text.specs.declared.Level.{Level}
use Rattle.text.specs.declared.Sort.TheVariants.{Unheld}
use Rattle.text.specs.Grammar.{unknown}
use Rattle.text.specs.Tokens.{code, lexeme, operator_due, tokens, classes_of}
use Rattle.text.specs.Machine.{operand, run, start, is_stuck}
use Rattle.text.specs.Syntax.{read_all}
use Rattle.text.specs.Limited.{Source, source, word_at, function_names}
use Rattle.text.specs.Reading.{byte_of}
use Rattle.text.specs.Forms.{form_of, found}
use Rattle.text.specs.Survey.{fresh, end_faults, Survey, survey, survey_token, unread}
use Rattle.text.proofs.Cutting.{Cut}
use Rattle.modes.specs.Acts.{act_of, modes}
use Rattle.levels.specs.Levels.{group_of, tightness_of, level_in, sort_in, lowered, fault_in, urgency_of, sound}
use Rattle.levels.proofs.Steps.{sort_closed, fault_closed, fault_parted}
use Rattle.survey.specs.declared.refill.Trace.{Trace}
use Rattle.survey.specs.declared.walk.State.{State}
use Rattle.survey.specs.declared.look.Seen.{Seen}
use Rattle.survey.specs.Looking.{Known}
use Rattle.survey.specs.declared.window.Slot.{Slot}
use Rattle.survey.specs.Window.{span, Holds}

-- ---- the trail

-- the number of the mode, the innermost level and those around it, and what the last name before a `(` was
pub data Trail : Type 0 where
  trail : ℕ → Level → List Level → ℕ → Trail

-- the kind of the level that an act opens
abbrev pub opened_kind : ℕ → ℕ → ℕ
opened_kind a n = cond (eqb a 15) 1 (cond (eqb a 16) (4 + n) 2)

-- what the last name before a `(` was, behind a token of class k that begins at b
unfoldable pub name_at : List ℕ → ℕ → ℕ → ℕ → ℕ
name_at text k b n = cond (eqb k 11) b (cond (eqb k 12) (position function_names (word_at text b)) n)

-- the level around, and those around that
abbrev pub outer : List Level → Level
outer [] = fresh 0 0
outer (o ∷ ls) = o

abbrev pub others : List Level → List Level
others [] = []
others (o ∷ ls) = ls

-- behind a token of class k that begins at b and does the act a; what follows it begins at p
unfoldable pub trailed : List ℕ → ℕ → ℕ → ℕ → ℕ → Trail → Trail
trailed text k a b p (trail q l ls n) =
    cond (ltb a 15) (trail (a - 1) (level_in (group_of k) (tightness_of k) q p l) ls (name_at text k b n))
    (cond (ltb a 18) (trail (cond (eqb a 16) 1 0) (fresh (opened_kind a n) p) (level_in (group_of k) (tightness_of k) q p l ∷ ls) n)
    (cond (eqb a 20) (trail 0 (fresh 9 p) ls n)
    (trail 13 (outer ls) (others ls) n)))

abbrev pub mode_in : Trail → ℕ
mode_in (trail q l ls n) = q

-- the class of token k
unfoldable pub kind_at : List ℕ → ℕ → ℕ
kind_at text k = code (get_or (classes_of text) k unknown)

-- behind the first k tokens
unfoldable pub trail_of : List ℕ → ℕ → Trail
trail_of text zero = trail 0 (fresh 0 (byte_of text 0)) [] 0
trail_of text (suc k) =
    let before : Trail = trail_of text k in
    trailed text (kind_at text k) (act_of (kind_at text k) (mode_in before)) (byte_of text k) (byte_of text (suc k)) before

-- a level that the window can hold, and whose bytes are of a text of this length
pub record Small (n : ℕ) (l : Level) : Type 0 where
  pub kind : l.kind < 10
  pub rank : l.rank < 3
  pub e : l.e ≤ n
  pub g : l.g ≤ n
  pub m : l.m ≤ n

pub data Smalls (n : ℕ) : List Level → Type 0 where
  none : Smalls n []
  one : {l : Level} {ls : List Level} → Small n l → Smalls n ls → Smalls n (l ∷ ls)

-- a trail that a reading can leave: the name is a function's before its `(`, and a byte before a processing-instruction's string
pub record Left (n q : ℕ) (l : Level) (ls : List Level) (name : ℕ) : Type 0 where
  pub mode : q < 14
  pub small : Small n l
  pub smalls : Smalls n ls
  pub function : q ≡ 11 → name < 6
  pub byte : q ≡ 9 → name ≤ n
  pub byte_behind : q ≡ 10 → name ≤ n

-- a token of this class stands between these bytes
pub record Reads (text : List ℕ) (kind begin end : ℕ) : Type 0 where
  pub due : Bool
  pub inside : begin < length text
  pub known : kind < 33
  pub class : kind ≡ (lexeme text begin due).kind
  pub ends : end ≡ (lexeme text begin due).end

-- none of the first k tokens is refused
unfoldable pub Goes : List ℕ → ℕ → Type 0
Goes text k = is_stuck (run start (take k (classes_of text))) ≡ false

-- ---- reading again

-- a reading; the window holds the levels from lo to before hi, and the trace's level is right if it is one of those
pub record Traced (text : List ℕ) (w : List Slot) (lo hi : ℕ) (t : Trace) : Type 0 where
  pub cut : Cut text t.count t.at t.due
  pub goes : Goes text t.count
  pub level : Level
  pub around : List Level
  pub trails : trail_of text t.count ≡ trail t.mode level around t.name
  pub deep : t.depth ≡ length around
  pub shallow : t.depth ≤ t.count
  pub holds : Holds w lo hi around
  pub same : lo ≤ t.depth → t.depth < hi → t.level ≡ level
  pub kind : t.level.kind < 10
  pub rank : t.level.rank < 3
  pub size : length w ≡ span
  pub reach : hi ≤ lo + span

-- and the next token, which is taken
pub record Follows (text : List ℕ) (w : List Slot) (lo hi : ℕ) (t : Trace) (s : Seen) : Type 0 where
  pub traced : Traced text w lo hi t
  pub known : Known text t.at t.due t.mode s
  pub class : s.kind < 33
  pub goes : Goes text (t.count + 1)

-- the window holds the levels from lo to before hi behind k tokens
unfoldable pub Refilled : List ℕ → ℕ → List Slot → ℕ → ℕ → Type 0
Refilled text k w lo hi = (q : ℕ) (l : Level) (ls : List Level) (n : ℕ) → trail_of text k ≡ trail q l ls n → Holds w lo hi ls

-- ---- what a token does to the survey's state

-- nothing was read; the first token begins at p
abbrev pub at_start : ℕ → State
at_start p = record {
  count = 0;
  at = 0;
  due = false;
  mode = 0;
  depth = 0;
  low = 0;
  name = 0;
  sort = Unheld;
  level = fresh 0 p;
  fault = None;
  ended = false;
}

-- the text is refused at this byte
abbrev pub refusal : ℕ → Option Fault
refusal p = Some (record { number = 23; place = p })

-- the level and the fault behind a token that leads to a mode or opens a level; the token may have a fault of its own
unfoldable pub level_past : State → Seen → Level
level_past s t = level_in (group_of t.kind) (tightness_of t.kind) s.mode t.behind s.level

unfoldable pub fault_past : Option ℕ → State → Seen → Option Fault
fault_past own s t =
    fault_in (group_of t.kind) t.kind (tightness_of t.kind) s.mode s.level s.sort s.name t.begin own s.fault

-- behind a token that leads to a mode
unfoldable pub gone_on : List ℕ → Option ℕ → State → Seen → State
gone_on text own s t = record {
  count = s.count + 1;
  at = t.end;
  due = operator_due t.kind;
  mode = t.act - 1;
  depth = s.depth;
  low = s.low;
  name = name_at text t.kind t.begin s.name;
  sort = sort_in (group_of t.kind) t.kind s.mode s.sort;
  level = level_past s t;
  fault = fault_past own s t;
  ended = false;
}

-- the lowest level for the window when one more is open
unfoldable pub lowest : ℕ → ℕ → ℕ
lowest depth low = cond (ltb (depth - low) span) low (low + 1)

-- behind a token that opens a level
unfoldable pub opened_by : Option ℕ → State → Seen → State
opened_by own s t = record {
  count = s.count + 1;
  at = t.end;
  due = operator_due t.kind;
  mode = cond (eqb t.act 16) 1 0;
  depth = s.depth + 1;
  low = lowest s.depth s.low;
  name = s.name;
  sort = s.sort;
  level = fresh (opened_kind t.act s.name) t.behind;
  fault = fault_past own s t;
  ended = false;
}

-- a call is opened behind a function's name
unfoldable pub Called : ℕ → ℕ → Type 0
Called act name = act ≡ 16 → name < 6

-- a token opens a level: the level around it can be stored
pub record Opens (s : State) (t : Seen) : Type 0 where
  pub class : t.kind < 33
  pub further : s.count < t.end
  pub shallow : s.depth ≤ s.count
  pub least : s.low ≤ s.depth
  pub kind : (level_past s t).kind < 10
  pub rank : (level_past s t).rank < 3
  pub called : Called t.act s.name

-- is a token taken that does this in a level of this kind? `)` in a group or a call, `]` in a predicate, `,` in a call
unfoldable pub taken : ℕ → ℕ → Bool
taken act kind =
    cond (ltb act 18) (not (eqb act 0)) (cond (eqb act 18) (eqb kind 1 || leb 4 kind) (cond (eqb act 19) (eqb kind 2) (leb 4 kind)))

-- the kinds of levels that are brackets
abbrev pub is_bracketed : ℕ → Bool
is_bracketed kind = eqb kind 1 || (eqb kind 2 || leb 4 kind)

-- behind a token that closes a level; the window is then for the levels from low on, and outer is the level around
unfoldable pub left_by : State → Seen → ℕ → Level → State
left_by s t low outer = record {
  count = s.count + 1;
  at = t.end;
  due = operator_due t.kind;
  mode = 13;
  depth = s.depth - 1;
  low = low;
  name = s.name;
  sort = sort_closed s.mode s.level s.sort;
  level = outer;
  fault = fault_closed s.mode s.level outer s.sort s.fault;
  ended = false;
}

-- behind `,`
unfoldable pub parted_by : State → Seen → ℕ → Level → State
parted_by s t low outer = record {
  count = s.count + 1;
  at = t.end;
  due = operator_due t.kind;
  mode = 0;
  depth = s.depth;
  low = low;
  name = s.name;
  sort = s.sort;
  level = fresh 9 t.behind;
  fault = fault_parted s.level outer s.sort s.fault;
  ended = false;
}

-- the fault at the end of a text of this length, which has to end where an operand is whole and no bracket is open
unfoldable pub last_fault : ℕ → State → Option Fault
last_fault n s =
    cond ((eqb s.mode 3 || leb 12 s.mode) && eqb s.depth 0) (end_faults lowered s.level s.sort s.fault) (refusal n)

-- ---- the survey

-- the survey behind the first k tokens, and the one that a state stands for, with these levels around
abbrev pub surveyed_to : List ℕ → List ℕ → ℕ → Survey
surveyed_to text list k = read_all (survey_token (source text list)) (unread (source text list)) 0 (take k (classes_of text))

abbrev pub survey_of : Source → State → List Level → Survey
survey_of o s around = survey (get_or modes s.mode operand) s.level around s.sort s.name (urgency_of o s.fault)

-- the reading knows all that the survey does
pub record Standing (text list : List ℕ) (w : List Slot) (s : State) : Type 0 where
  pub cut : Cut text s.count s.at s.due
  pub goes : Goes text s.count
  pub few : s.count ≤ s.at
  pub around : List Level
  pub trails : trail_of text s.count ≡ trail s.mode s.level around s.name
  pub surveys : surveyed_to text list s.count ≡ survey_of (source text list) s around
  pub deep : s.depth ≡ length around
  pub shallow : s.depth ≤ s.count
  pub holds : Refilled text s.count w s.low (s.low + span)
  pub least : s.low ≤ s.depth
  pub most : s.depth ≤ s.low + span
  pub size : length w ≡ span
  pub sounds : T (sound (source text list) s.fault)

-- some levels are open, and the window may have to be filled again for the innermost of those around
pub record Closing (text : List ℕ) (count depth low : ℕ) (w : List Slot) : Type 0 where
  pub goes : Goes text count
  pub fits : count ≤ length (tokens text)
  pub holds : Refilled text count w low (low + span)
  pub some : 0 < depth
  pub most : depth ≤ low + span
  pub size : length w ≡ span

-- the window holds the innermost of the levels around
pub record Ready (text : List ℕ) (count depth low : ℕ) (w : List Slot) : Type 0 where
  pub holds : Refilled text count w low (low + span)
  pub least : low < depth
  pub most : depth ≤ low + span
  pub size : length w ≡ span

-- ---- what the survey finds

-- the survey stands in the text, or it has ended with what is found
pub record Surveyed (text list : List ℕ) (w : List Slot) (s : State) : Type 0 where
  pub goes_on : s.ended ≡ false → Standing text list w s
  pub ends : s.ended ≡ true → s.fault ≡ found (form_of text) text list
  pub size : length w ≡ span

-- and if it goes on, then behind one token more
pub record Advanced (text list : List ℕ) (w : List Slot) (k : ℕ) (s : State) : Type 0 where
  pub surveyed : Surveyed text list w s
  pub further : s.ended ≡ false → s.count ≡ k + 1
