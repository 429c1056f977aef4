-- The word is marked or not, as `strip_prefix` says; and a written number is marked.
use Rattle.std.proofs.Common.{rules}
use Rattle.std.specs.Option.{SomeIff}
use Rattle.numerals.specs.Numbers.{IsNumber, number}
use Rattle.numerals.proofs.Signs.{unmarked}
use Rattle.numerals.proofs.Back.{read_back}
use Rattle.numerals.proofs.parse_number.Goals as goal

pub returns-in-Some : goal.returns-in-Some
returns-in-Some c =
    let exact : SomeIff c.unsigned.result (IsNumber c.args.word.now) (number c.args.word.now) = search rules in
    record { exact = exact; back = read_back _ _ exact }

pub returns-in-None : goal.returns-in-None
returns-in-None c =
    let exact : SomeIff c.unsigned-in-None.result (IsNumber c.args.word.now) (number c.args.word.now) = search (rules, unmarked) in
    record { exact = exact; back = read_back _ _ exact }
