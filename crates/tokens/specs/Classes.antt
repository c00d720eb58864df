-- The classes of tokens as the code names them.
-- Assumes nothing: these are definitions.
use Rattle.std.specs.Prelude.{ℕ}
use Rattle.tokens.specs.declared.Class.{Class}
use Rattle.tokens.specs.declared.Class.TheVariants.{Opening, Closing, OpeningSquare, ClosingSquare, Dot, Dots, At, Comma, Colons, NameTest, NodeType, Instruction, FunctionName, AxisName, Literal, Number, Variable, Slash, Slashes, Bar, Plus, Minus, Equal, Unequal, Less, LessEqual, Greater, GreaterEqual, Multiply, And, Or, Div, Mod, Unknown}

-- the number of a class, which `code` of crates/text/specs/Tokens.antt gives its token
abbrev pub class_number : Class → ℕ
class_number Opening = 0
class_number Closing = 1
class_number OpeningSquare = 2
class_number ClosingSquare = 3
class_number Dot = 4
class_number Dots = 5
class_number At = 6
class_number Comma = 7
class_number Colons = 8
class_number NameTest = 9
class_number NodeType = 10
class_number Instruction = 11
class_number FunctionName = 12
class_number AxisName = 13
class_number Literal = 14
class_number Number = 15
class_number Variable = 16
class_number Slash = 17
class_number Slashes = 18
class_number Bar = 19
class_number Plus = 20
class_number Minus = 21
class_number Equal = 22
class_number Unequal = 23
class_number Less = 24
class_number LessEqual = 25
class_number Greater = 26
class_number GreaterEqual = 27
class_number Multiply = 28
class_number And = 29
class_number Or = 30
class_number Div = 31
class_number Mod = 32
class_number Unknown = 33
