use Rattle.std.proofs.Common.{◌≡◌, ◌+◌, ◌++◌, ap, ◌∙◌, arith, replicate, take}
use Rattle.std.proofs.lemmas.List.{take_all}
use Rattle.df1_base.specs.declared.file_type.FileType.TheVariants.{Status}
use Rattle.data_files.specs.declared.file_spec.FileSpec.{FileSpec}
use Rattle.data_files.specs.Directory.{tables_of}
use Rattle.data_files.specs.Tables.{total_words}
use Rattle.data_files.proofs.Made.{found-more, tables-fresh, total-more, total-within}
use Rattle.data_files.proofs.tables.Tables.zeroed.Goals as goal

nothing : FileSpec
nothing = record { number = 0; kind = Status; count = 0 }

pub overflow_add-start : goal.overflow_add-start
unfolding nothing
overflow_add-start c =
    omega (arith, total-more c.args.specs.now c.loop-spec.spec-index nothing c.loop-spec-test.true, total-within c.args.specs.now (c.loop-spec.spec-index + 1) c.loop-spec.invariant.valid)

pub loop-spec-preserved : goal.loop-spec-preserved
unfolding nothing
loop-spec-preserved c =
    record {
      valid = c.loop-spec.invariant.valid;
      start = omega (arith, total-more c.args.specs.now c.loop-spec.spec-index nothing c.loop-spec-test.true);
      finds = λ number.
          c.in_ok-insert.ensures.updates.0 number
          ∙ found-more c.args.specs.now c.loop-spec.spec-index nothing c.loop-spec.start number _ c.loop-spec.invariant.valid c.loop-spec-test.true c.loop-spec.invariant.start (c.loop-spec.invariant.finds number);
    }

pub returns : goal.returns
returns c =
    let zeros : c.in_ok-words.words.items ≡ replicate c.loop-spec.start 0 = c.in_ok-words.ensures.items_if_clones_equal (λ y e. e) in
    let kept : c.extend_from_slice.new.self.items ≡ c.args.specs.now = c.in_ok-extend_from_slice.ensures.items ∙ ap (λ xs. xs ++ c.args.specs.now) c.new-kept.ensures.items in
    let all : take c.loop-spec.spec-index c.args.specs.now ≡ c.args.specs.now = take_all c.loop-spec.spec-index c.args.specs.now c.loop-spec-test.false in
    ap (λ ss. tables_of ss c.in_ok-words.words.items) kept
    ∙ ap (tables_of c.args.specs.now) (zeros ∙ ap (λ n. replicate n 0) (c.loop-spec.invariant.start ∙ ap total_words all))
    ∙ tables-fresh c.args.specs.now
