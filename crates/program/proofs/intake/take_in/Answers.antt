use Rattle.std.proofs.Common.{◌≡◌, ℕ, ◌+◌, ◌-◌, ◌≤◌, List, ◌++◌, length, take, sym, subst, rules, arith}
use Rattle.std.proofs.KnownBytes.{Consumes-trans}
use Rattle.std.proofs.Math.Seq.{take-add}
use Rattle.std.proofs.lemmas.Grind.{common_steps}
use Rattle.std.specs.Io.KnownBytes.{Consumes}
use borrow.Rule.Slice.PartMut.{put_mid}
use Rattle.program.proofs.intake.take_in.Goals as goal

-- the bytes before, and those that the read put behind them
read_more : (a k n : ℕ) (xs ys : List ℕ) → a ≤ length xs → n ≤ length ys → take (a + n) (put_mid a k xs ys) ≡ take a xs ++ take n ys
read_more a k n xs ys h l = grind (arith, common_steps, take-add)

pub loop-used-preserved : goal.loop-used-preserved
loop-used-preserved g c = record {
  within = search rules;
  taken =
      subst (Consumes (g.R.Read.remaining c.args.input.now) (g.R.Read.remaining c.read.new.self))
      (sym (read_more c.loop-used.used (length c.loop-used.buffer - c.loop-used.used) c.in_ok-got.got c.loop-used.buffer c.read.new.buf (search rules) (search rules)))
      (Consumes-trans _ _ _ _ _ c.loop-used.invariant.taken (search rules));
}
