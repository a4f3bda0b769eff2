use Rattle.std.proofs.Common.{◌≡◌, Bool, true, sym, ◌∙◌, arith}
use Rattle.words.specs.Link.{in_ranges}
use Rattle.words.specs.declared.link.Settings.{Settings}
use Rattle.words.proofs.Ranges.{Ranges, ranges}
use Rattle.words.proofs.link.configure.Goals as goal

inside : (s : Settings) (answer : Bool) → answer ≡ in_ranges s → answer ≡ true → Ranges s.address s.mode s.subaddress s.largest s.window
inside s answer e t = ranges s (sym e ∙ t)

pub overflow_cast-result : goal.overflow_cast-result
overflow_cast-result c = let r = inside c.args.settings _ c.in_ranges.ensures c.if-not-in_ranges.false in omega arith

pub overflow_cast-result-2 : goal.overflow_cast-result-2
overflow_cast-result-2 c = let r = inside c.args.settings _ c.in_ranges.ensures c.if-not-in_ranges.false in omega arith

pub overflow_cast-result-3 : goal.overflow_cast-result-3
overflow_cast-result-3 c = let r = inside c.args.settings _ c.in_ranges.ensures c.if-not-in_ranges.false in omega arith

pub overflow_cast-result-4 : goal.overflow_cast-result-4
overflow_cast-result-4 c = let r = inside c.args.settings _ c.in_ranges.ensures c.if-not-in_ranges.false in omega arith

pub overflow_cast-result-5 : goal.overflow_cast-result-5
overflow_cast-result-5 c = let r = inside c.args.settings _ c.in_ranges.ensures c.if-not-in_ranges.false in omega arith
