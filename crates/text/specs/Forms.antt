-- The form of a text, computed: by the machine, by the tree that its tokens grow, and by the place where the machine stops. It need not be
-- believed: that a text has this form and no other is a law.
-- Assumes nothing: this is a definition.
use Rattle.std.specs.Prelude.{ℕ, cond, List, [], ◌∷◌, Option, None, Some}
use Rattle.text.specs.declared.Fault.{Fault}
use Rattle.text.specs.Tokens.{classes_of}
use Rattle.text.specs.Machine.{start, accepts, readable}
use Rattle.text.specs.Growing.{syntax_of}
use Rattle.text.specs.Limited.{source, text_faults, least}
use Rattle.text.specs.Reading.{Form, outside, inside, byte_of}

-- a text that the machine accepts stands for the tree that its tokens grow; any other is refused at the token at which the machine stops
unfoldable pub form_of : List ℕ → Form
form_of text =
    cond (accepts (classes_of text)) (inside (syntax_of (classes_of text))) (outside (byte_of text (readable start (classes_of text))))

-- the lowest of some faults, if there is one
unfoldable pub lowest_of : List Fault → Option Fault
lowest_of [] = None
lowest_of (f ∷ fs) = Some (least f fs)

-- what is wrong in a text of this form, if anything is: 23 outside the grammar, else its lowest fault
unfoldable pub found : Form → List ℕ → List ℕ → Option Fault
found (outside p) text list = Some (record { number = 23; place = p })
found (inside e) text list = lowest_of (text_faults (source text list) e)
