-- How a span is told: lo..hi.
use Rattle.std.specs.Prelude.{ℕ, List, ◌++◌, codes}
use Rattle.std.specs.Fmt.{signed_decimal}
use Rattle.span.specs.declared.shape.Span.{Span}

abbrev pub span_text : Span → List ℕ
span_text s = signed_decimal s.lo ++ (codes ".." ++ signed_decimal s.hi)
