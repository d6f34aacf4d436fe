-- A body with an envelope.
use Rattle.std.proofs.Common.{◌≤◌, length, refl, inl, inr}
use Rattle.std.proofs.lemmas.List.{take_rest}
use Rattle.std.proofs.lemmas.Bool.{cases_lt, le-ltb, true≢false}
use Rattle.df1_dissect.specs.Lines.{fields_text}
use Rattle.df1_dissect.proofs.fields.append_fields.Goals as goal

pub returns-in-Some-clause-text : goal.returns-in-Some-clause-text
unfolding fields_text
returns-in-Some-clause-text g c =
    let body = c.args.body.now in
    let long : 6 ≤ length body = elim (cases_lt (length body) 6) [ inl lt ↦ absurd (true≢false (c.in-Some.ensures.none.1 lt)) | inr le ↦ le ] in
    rw (c.append_message.ensures.text, c.in-Some.ensures.fields, le-ltb (length body) 6 long, take_rest body 6) refl
