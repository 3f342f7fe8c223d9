use Rattle.std.proofs.Common.{◌≡◌, ℤ, Option, ap, ◌∙◌}
use Rattle.std.specs.Option.{option_map, ok_or}
use Rattle.fields.specs.declared.fault.FieldFault.TheVariants.{Number}
use Rattle.fields.proofs.Options.{ok_or_mapped}
use Rattle.fields.specs.Numbers.{number_at}
use Rattle.fields.specs.Results.{map_ok}
use Rattle.values.specs.declared.amount.Amount.{Amount}
use Rattle.fields.proofs.Amounts.{amount_read, denotes_exactly}
use Rattle.fields.proofs.number.read_number.Goals as goal

pub returns : goal.returns
unfolding number_at
returns c =
    let read : option_map (λ (a : Amount). a.hundredths) c.and_then.result ≡ c.read_signed.result =
    amount_read c.read_signed.result c.and_then.result c.read_signed.ensures.range c.and_then.ensures in
    let v : map_ok (λ (a : Amount). a.hundredths) c.ok_or.result ≡ number_at c.args.field.text.now c.args.field.place =
    ap (map_ok (λ (a : Amount). a.hundredths)) c.ok_or.ensures.value
    ∙ ok_or_mapped (λ (a : Amount). a.hundredths) c.and_then.result (Number c.args.field.place)
    ∙ ap (λ (o : Option ℤ). ok_or o (Number c.args.field.place)) (read ∙ c.read_signed.ensures.value) in
    record { value = v; exactly = denotes_exactly _ _ _ v }
