-- Report lines as bytes: their pieces, and what writing a line into a lent buffer answers and leaves.
use Rattle.std.specs.Prelude.{◌≡◌, ℕ, ◌-◌, ◌/◌, ◌%◌, ◌<◌, ◌≤◌, true, cond, List, [], ◌∷◌, ◌++◌, length, drop, replicate, codes, is_ok, Ok, Err, Result}
use Rattle.std.specs.Fmt.{digit_glyph}
use Rattle.line.specs.declared.fault.LineFault.{LineFault}
use Rattle.line.specs.declared.fault.LineFault.TheVariants.{TooLong, NoMemory}

-- the numbers of the faults
abbrev pub number : LineFault → ℕ
number TooLong = 30
number NoMemory = 31

abbrev pub fault_words : LineFault → List ℕ
fault_words TooLong = codes "the line is longer than the buffer"
fault_words NoMemory = codes "there is no memory for the line"

-- the piece stands at the end of the line, or the line is as it was
abbrev pub appended : {E : Type 0} → Result (Unit {0}) E → List ℕ → List ℕ → List ℕ
appended r line piece = cond (is_ok r) (line ++ piece) line

-- the two hexadecimal digits of a byte, A to F in upper case
abbrev pub hexadecimal : ℕ → List ℕ
hexadecimal b = digit_glyph true (b / 16) ∷ digit_glyph true (b % 16) ∷ []

-- the spaces that bring a line to a column
abbrev pub padding : ℕ → List ℕ → List ℕ
padding column line = replicate (column - length line) 32

-- the line went into the buffer, and the rest of the buffer is as it was; or it was refused, and the whole buffer is
abbrev pub Written : List ℕ → List ℕ → Result ℕ LineFault → List ℕ → Type 0
Written line old (Ok n) new = (n ≡ length line) × (length line ≤ length old) × (new ≡ line ++ drop (length line) old)
Written line old (Err TooLong) new = (length old < length line) × (new ≡ old)
Written line old (Err NoMemory) new = new ≡ old
