-- `hex`: how many digits there are, and that they stand in the array.
use Rattle.std.proofs.Common.{◌≡◌, ◌≤◌, sym, ◌∙◌, arith, length-take-le}
use Rattle.printing.specs.Printing.{hex_columns}
use Rattle.printing.proofs.Laws.Digits.{hex_counted, hex_most}
use Rattle.printing.proofs.hex.Goals as goal

pub returns : goal.returns
returns c =
    let k : c.hex-k.result ≡ hex_columns c.args.n c.args.digits = sym (hex_counted _ _ _ c.hex-k.ensures.len) in
    let most : hex_columns c.args.n c.args.digits ≤ 16 = hex_most _ _ (omega arith) in
    let e : c.text.result ≡ c.hex-k.result = c.text.ensures ∙ length-take-le _ _ (omega (arith, c.if-matches.array_long)) in
    (e ∙ k, omega arith)
