-- `records::number::read` meets its contract.
use Rattle.std.proofs.Common.{◌≡◌, ◌+◌, ◌-◌, take, drop, ◌∙◌, arith}
use Rattle.records.specs.Bytes.{number_at}
use Rattle.records.proofs.Numbers.{number_lt}
use Rattle.records.proofs.Words.{word_read}
use Rattle.records.proofs.number.read.Goals as goal

pub returns : goal.returns
returns c =
    let a = c.args in
    let all : a.at + a.width - a.at ≡ a.width = omega arith in
    let part : c.copy_from_slice.new.self ≡ take (a.at + a.width - a.at) (drop a.at a.bytes.now) = c.copy_from_slice.ensures.after in
    let value : c.from_le_bytes.result ≡ number_at a.width a.bytes.now a.at
    = c.from_le_bytes.ensures ∙ word_read a.bytes.now a.at a.width c.copy_from_slice.new.self (omega arith) (omega arith) (rw all at part) in
    (value, rw value (number_lt a.width a.bytes.now a.at (λ i. omega (arith, c.type_inv.bytes i))))
