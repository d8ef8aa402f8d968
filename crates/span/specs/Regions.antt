-- Boxes: the spans of their variables, a box with another span, the halves, and the box of a list of spans. Variables are numbered from 0.
use Rattle.std.specs.Prelude.{◌≡◌, ℕ, ◌-◌, ◌<◌, ◌≤◌, cond, List, ◌++◌, map, length, replicate, ℤ, pos, Some, None, Option, nat_lt, slice_index_or, slice_set}
use Rattle.std.proofs.Math.Decide.{dec_le}
use Rattle.std.proofs.Common.{arith, ◌∙◌, length-set, length-append}
use Rattle.std.specs.Int.Signed.{le_z_yes}
use Rattle.std.proofs.lemmas.List.{length-replicate}
use Rattle.numbers.specs.Numbers.{Numbers}
use Rattle.span.specs.declared.shape.Span.{Span}
use Rattle.span.specs.declared.region.Region.{Region}
use Rattle.span.specs.Halves.{middle, lower, upper}
use Rattle.span.specs.Holding.{Within, Inside}

-- [0, 0]
abbrev pub nought : Span
nought = record { lo = pos 0; hi = pos 0; ordered = le_z_yes tt; least = le_z_yes tt; most = le_z_yes tt }

-- the span of variable i
abbrev pub at : Region → ℕ → Span
at b i = slice_index_or b.spans i nought

-- the box with s for the span at place j
abbrev pub put : Region → ℕ → Span → Region
put b j s = record { n = b.n; spans = slice_set b.spans j s; some = b.some; few = b.few; whole = length-set b.spans j s ∙ b.whole }

-- the box with s for the span of variable j: unchanged where it has no variable j
abbrev pub with_span : Region → ℕ → Span → Region
with_span b j s = cond (nat_lt j b.n) (put b j s) b

-- the halves at variable j: the box itself where it has no variable j
abbrev pub lower_half : ℕ → Region → Region
lower_half j b = with_span b j (lower (at b j))

abbrev pub upper_half : ℕ → Region → Region
upper_half j b = with_span b j (upper (at b j))

-- the lower middles of the eight places
abbrev pub middles : Region → List ℤ
middles b = map middle b.spans

-- the spans, and [0, 0] in the spare places
abbrev pub padded : List Span → List Span
padded ss = ss ++ replicate (8 - length ss) nought

pub padded_whole : (ss : List Span) → length ss ≤ 8 → length (padded ss) ≡ 8
padded_whole ss h = length-append ss (replicate (8 - length ss) nought) ∙ (let e = length-replicate (8 - length ss) nought in omega arith)

abbrev pub boxing : (ss : List Span) → Dec (1 ≤ length ss) → Dec (length ss ≤ 8) → Option Region
boxing ss (yes h) (yes k) = Some (record { n = length ss; spans = padded ss; some = h; few = k; whole = padded_whole ss k })
boxing ss (yes h) (no n) = None
boxing ss (no n) d = None

-- the box of a list of spans: none if it is empty or has more than eight
abbrev pub boxed : List Span → Option Region
boxed ss = boxing ss (dec_le 1 (length ss)) (dec_le (length ss) 8)

-- ---- points
-- the point x lies in the box b
abbrev pub In : (N : Numbers) → (ℕ → N.carrier) → Region → Type 0
In N x b = (i : ℕ) → i < b.n → Within N (at b i) (x i)

-- c lies inside b, with the same number of variables
pub record Narrower (c b : Region) : Type 0 where
  pub same : c.n ≡ b.n
  pub inside : (i : ℕ) → i < b.n → Inside (at c i) (at b i)
