-- The box behind a seat, at its types: the value that it holds, and the allocator `Global`. Assumes nothing: these are names.
use Rattle.std.proofs.Common.{[], ◌∷◌}
use mir.Syntax.{impl, tcons, tnil, dnil}
use mathlib.Core.Path.{refl}
use denote.RattleType.{RattleType}
use mir.Raw.{raw as bare}
use denote.Exit.{no}
use denote.Param.{layout, arg}
use denote.Param.Laws.{arg_laws}
use Rattle.std_alloc.proofs.BoxSteps.Form as box
use Rattle.std_heap.specs.contracts.Global as heap
use Rattle.std_heap.proofs.Global.TheLaws as heap_laws
use Rattle.std_heap.specs.contracts.GlobalAllocator.TheImpl.{ghosts, dict}
use Rattle.std.proofs.mem.ManuallyDrop.TheLaws as lasting_laws
use Rattle.c_ends.proofs.held.Held.TheLaws as held_laws
use Rattle.c_ends.specs.contracts.held.Held as held
use Rattle.df1_c.specs.Rows.{kept_row}

abbrev pub as_arg : RattleType → RattleType
as_arg R = arg (bare (layout R)) no R

abbrev pub E : box.Bx
E = record {
  row = as_arg kept_row;
  laws = arg_laws (bare (layout kept_row)) no kept_row (lasting_laws.the_row_laws held.the_row held_laws.the_row_laws) refl;
  al = record {
    row = as_arg heap.the_row;
    laws = arg_laws (bare (layout heap.the_row)) no heap.the_row heap_laws.the_row_laws refl;
    g = ghosts;
    d = dict;
    drops = impl ("df1_c::Destruct++none::drop" ∷ []) (tcons (layout (as_arg heap.the_row)) tnil) dnil;
  };
}
