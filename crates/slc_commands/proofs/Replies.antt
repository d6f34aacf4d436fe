-- That the reply to an order fits a message.
use Rattle.std.proofs.Common.{◌≡◌, ◌∙◌, ℕ, ◌≤◌, ◌*◌, ◌/◌, Bool, true, false, not, ◌&&◌, List, [], ◌∷◌, length, Option, Some, None, refl, ap, arith}
use Rattle.std.specs.Prelude.{IsTrue, ◌==◌, ◌%◌, nat_le}
use Rattle.std.proofs.lemmas.Bool.{leb-true}
use Rattle.std.proofs.lemmas.List.FromFn.{length-map-range_with_len}
use Rattle.df1_base.specs.declared.code.Code.{Code}
use Rattle.df1_base.specs.declared.code.Code.TheVariants.{Ext}
use Rattle.data_files.specs.Effect.{Test, Effect, refusal, tested, FitsReply}
use Rattle.data_files.specs.Place.{place_tests}
use Rattle.data_files.specs.Tables.{DataTables, file_of}
use Rattle.slc_commands.specs.Meaning.{place_of, tests, words_before, effect_of, meaning}
use Rattle.slc_commands.specs.Order.{Order, writes}
use Rattle.data_files.specs.WordBytes.{bytes_of}
use Rattle.data_files.proofs.WordLists.{length-bytes_of}

-- where no test refuses, the second held
second : (a b : Bool) (x y : Code) (rest : List Test) → refusal ((a, x) ∷ (b, y) ∷ rest) ≡ None → b ≡ true
second true true x y rest none = refl
second true false x y rest none = absurd cc
second false b x y rest none = absurd cc

effect-fits : (tables : DataTables) (order : Order) (written : Bool) → order.size ≤ 244 → length (bytes_of (words_before tables order)) ≤ 244
effect-fits tables order written few =
    let bytes = length-bytes_of (words_before tables order) in
    let words : length (words_before tables order) ≡ order.size / 2 = length-map-range_with_len _ _ (order.size / 2) in
    omega (arith, bytes, words, few)

done-fits : (tables : DataTables) (order : Order) (is_written : Bool) → writes order.fnc ≡ is_written → order.size ≤ 244 → FitsReply (effect_of tables order)
done-fits tables order true is few = rw is (record { short = omega arith; alone = λ no. absurd (let is : false ≡ true = no in cc) })
done-fits tables order false is few = rw is (record { short = effect-fits tables order false few; alone = λ no. absurd (let is : false ≡ true = no in cc) })

tested-fits : (tables : DataTables) (order : Order) (refused : Option Code) → refusal (tests tables.specs order) ≡ refused → FitsReply (tested tables refused (effect_of tables order))
tested-fits tables order (Some code) is = record { short = omega arith; alone = λ refuses. refl }
tested-fits tables order None is =
    let held : nat_le order.size 244 ≡ true = second (not (order.size == 0) && (order.size % 2 == 0)) (nat_le order.size 244) (Ext 0x01) (Ext 0x09) (place_tests (file_of tables.specs order.at.file) (place_of order)) is in
    done-fits tables order (writes order.fnc) refl (leb-true order.size 244 held)

pub reply-fits : (tables : DataTables) (order : Order) → FitsReply (meaning tables order)
reply-fits tables order = tested-fits tables order (refusal (tests tables.specs order)) refl
