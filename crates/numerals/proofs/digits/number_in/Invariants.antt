use Rattle.std.proofs.Common.{◌≡◌, ◌+◌, ◌*◌, ◌^◌, ◌≤◌, take}
use Rattle.numerals.specs.Digits.{decimal}
use Rattle.numerals.proofs.digits.number_in.Given as goal

-- a byte is worth at most 207, and 207 is 23 * 9
abbrev pub invariant-loop-byte : goal.invariant-loop-byte
invariant-loop-byte l = (l.value ≡ decimal (take l.byte-index l.digits)) × (l.value + 24 ≤ 24 * 10 ^ l.byte-index)
