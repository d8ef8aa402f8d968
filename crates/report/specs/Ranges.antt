-- The report of a run: the verdict, how many boxes were settled and why it stopped, then the feasible, undecided and pending boxes.
use Rattle.std.specs.Prelude.{ℕ, List, [], ◌∷◌, ◌++◌, take, codes, decimal}
use Rattle.std.specs.List.{flat_map}
use Rattle.span.specs.declared.shape.Span.{Span}
use Rattle.span.specs.declared.region.Region.{Region}
use Rattle.span.specs.Text.{span_text}
use Rattle.sheet.specs.declared.variable.Variable.{Variable}
use Rattle.sheet.specs.Held.{name_is}
use Rattle.runlaw.specs.declared.shape.Verdict.{Verdict}
use Rattle.runlaw.specs.declared.shape.Cause.{Cause}
use Rattle.runlaw.specs.declared.shape.Filed.{Filed}
use Rattle.runlaw.specs.Words.{verdict_word, cause_word}

abbrev pub head_line : Verdict → ℕ → ℕ → List ℕ
head_line v steps stop = codes "VERDICT " ++ (verdict_word v ++ (codes " STEPS " ++ (decimal steps ++ (codes " STOP " ++ decimal stop))))

-- =lo..hi
abbrev pub ends_text : Span → List ℕ
ends_text s = codes "=" ++ span_text s

-- a variable's range, behind a space: name=lo..hi
abbrev pub range_text : Variable → Span → List ℕ
range_text v s = codes " " ++ (name_is v.name ++ ends_text s)

abbrev pub ranges_text : List Variable → List Span → List ℕ
ranges_text [] ss = []
ranges_text (v ∷ vs) [] = []
ranges_text (v ∷ vs) (s ∷ ss) = range_text v s ++ ranges_text vs ss

-- a box behind a letter: F feasible, U undecided, P pending
abbrev pub box_text : List ℕ → List Variable → Region → List ℕ
box_text letter vs b = letter ++ ranges_text vs (take b.n b.spans)

abbrev pub cause_text : Cause → List ℕ
cause_text c = codes " " ++ (cause_word c ++ codes "\n")

-- the lines, each with its newline
abbrev pub box_line : List ℕ → List Variable → Region → List ℕ
box_line letter vs b = box_text letter vs b ++ codes "\n"

abbrev pub undecided_line : List Variable → Filed → List ℕ
undecided_line vs f = box_text (codes "U") vs f.region ++ cause_text f.cause

abbrev pub boxes_lines : List ℕ → List Variable → List Region → List ℕ
boxes_lines letter vs bs = flat_map (box_line letter vs) bs

abbrev pub undecided_lines : List Variable → List Filed → List ℕ
undecided_lines vs fs = flat_map (undecided_line vs) fs

abbrev pub ranges_report : List Variable → Verdict → ℕ → ℕ → List Region → List Filed → List Region → List ℕ
ranges_report vs v steps stop feasible undecided pending =
    (head_line v steps stop ++ codes "\n") ++ (boxes_lines (codes "F") vs feasible ++ (undecided_lines vs undecided ++ boxes_lines (codes "P") vs pending))
