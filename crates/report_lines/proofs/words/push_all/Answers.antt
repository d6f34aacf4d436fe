use Rattle.std.proofs.Common.{sym, ◌∙◌, refl, append_assoc}
use Rattle.std.proofs.lemmas.Grind.{flat_map-append}
use Rattle.std.proofs.lemmas.List.{take_more, append-nil}
use Rattle.std.proofs.lemmas.Option.{slice_get_within, get_or_from_slice_get}
use Rattle.report_lines.proofs.FileWords.{file-next}
use Rattle.report_lines.proofs.words.push_all.Goals as goal

pub split_at-requires : goal.split_at-requires
split_at-requires c =
    let next = file-next c.args.tables.now c.args.tables.now.specs c.loop-place.place c.in-Some.spec c.loop-place.rest.now (sym c.in-Some.ensures) c.loop-place.invariant.1 in
    rw c.words.ensures next.room

pub loop-place-preserved : goal.loop-place-preserved
loop-place-preserved c =
    let specs = c.args.tables.now.specs in
    let i = c.loop-place.place in
    let found = sym c.in-Some.ensures in
    let within = slice_get_within specs i c.in-Some.spec found in
    let same = get_or_from_slice_get specs i c.in-Some.spec c.in-Some.spec found in
    let more = take_more specs i c.in-Some.spec within in
    let next = file-next c.args.tables.now specs i c.in-Some.spec c.loop-place.rest.now found c.loop-place.invariant.1 in (
      rw (more, same, flat_map-append, append-nil, ← append_assoc) (c.in_ok-push_file.ensures ∙ rw c.loop-place.invariant.0 (rw (c.split_at.ensures.front, c.words.ensures, next.front) refl)),
      c.split_at.ensures.back ∙ rw c.words.ensures next.back,
    )
