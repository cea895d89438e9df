-- A test that the code branched on, as a definition has it. Assumes nothing.
use Rattle.std.proofs.Common.{◌≡◌, Bool, true, false, not, sym, ap, ◌∙◌}

not_back : (x b : Bool) → not x ≡ b → x ≡ not b
not_back true b e = ap not e
not_back false b e = ap not e

pub test_fails : (x a : Bool) → x ≡ a → not x ≡ true → a ≡ false
test_fails x a e n = sym e ∙ not_back x true n

pub test_holds : (x a : Bool) → x ≡ a → not x ≡ false → a ≡ true
test_holds x a e n = sym e ∙ not_back x false n
