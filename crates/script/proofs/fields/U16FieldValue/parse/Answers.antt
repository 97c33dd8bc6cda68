use Rattle.std.proofs.Common.{◌≡◌, ◌-◌, ◌<◌, ◌≤◌, length, get_or, take, decimal, sym, ap, ◌∙◌, subst, arith, rules}
use Rattle.std.specs.Str.Parse.{AllDigits, digits_value}
use Rattle.std.specs.Char.{digit_value as digitValue}
use Rattle.std.proofs.lemmas.Int.Digits.{digits_value_more, digits_more}
use Rattle.std.proofs.lemmas.Str.Parse.{digit_at}
use Rattle.std.proofs.lemmas.List.{length-take, take_all}
use Rattle.script.proofs.Numerals.{short_value, numeral_of, numeric_of, number_if, digit_value}
use Rattle.script.proofs.fields.U16FieldValue.parse.Goals as goal

pub returns-in-48 : goal.returns-in-48
returns-in-48 c g =
    let q = numeric_of c.args.field.now g in
    let z : get_or c.args.field.now 0 0 ≡ 48 = search rules in
    let one = q.canon z in
    search rules

pub returns-then-is_empty : goal.returns-then-is_empty
returns-then-is_empty c g = let q = numeric_of c.args.field.now g in search rules

pub returns-then-not-is_ascii_digit : goal.returns-then-not-is_ascii_digit
returns-then-not-is_ascii_digit c g =
    let q = numeric_of c.args.field.now g in
    let p = digit_at c.args.field.now c.loop-b.b-index q.digits c.loop-b-test.true in
    search rules

pub overflow_mul-n : goal.overflow_mul-n
overflow_mul-n c =
    let k : length (take c.loop-b.b-index c.args.field.now) ≤ 5 = simp length-take (omega arith) in
    omega (arith, short_value (take c.loop-b.b-index c.args.field.now) c.loop-b.invariant.1 k)

pub overflow_add-n : goal.overflow_add-n
overflow_add-n c =
    let k : length (take c.loop-b.b-index c.args.field.now) ≤ 5 = simp length-take (omega arith) in
    omega (arith, short_value (take c.loop-b.b-index c.args.field.now) c.loop-b.invariant.1 k)

pub loop-b-preserved : goal.loop-b-preserved
loop-b-preserved c =
    let v : digitValue (get_or c.args.field.now c.loop-b.b-index 0) ≡ get_or c.args.field.now c.loop-b.b-index 0 - 48 = digit_value _ c.if-not-is_ascii_digit.ensures.cases.0 c.if-not-is_ascii_digit.ensures.cases.1 in (
      omega (arith, v, digits_value_more 10 c.args.field.now c.loop-b.b-index c.loop-b-test.true),
      digits_more 10 c.args.field.now c.loop-b.b-index c.loop-b-test.true c.loop-b.invariant.1 (omega (arith, v, c.if-not-is_ascii_digit.ensures.cases.1)),
    )

pub returns : goal.returns
returns c =
    let t : take c.loop-b.b-index c.args.field.now ≡ c.args.field.now = take_all _ _ c.loop-b-test.false in
    let d : AllDigits 10 c.args.field.now = subst (AllDigits 10) t c.loop-b.invariant.1 in
    let v : c.loop-b.n ≡ digits_value 10 c.args.field.now = c.loop-b.invariant.0 ∙ ap (digits_value 10) t in
    let s : 0 < length c.args.field.now = search rules in
    let z : get_or c.args.field.now 0 0 ≡ 48 → length c.args.field.now ≡ 1 = λ e. search rules in
    let f : c.args.field.now ≡ decimal c.loop-b.n = numeral_of c.args.field.now d s c.if-field-gt-DIGITS_MAX.false z ∙ ap decimal (sym v) in
    number_if _ c.args.field.now c.loop-b.n c.try_from.result c.ok.result c.ok.ensures.value c.try_from.ensures f
    (λ g. let q = numeric_of c.args.field.now g in sym q.is ∙ sym v)
