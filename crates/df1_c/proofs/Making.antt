-- What a call that makes an end does, by what its parts made, and the bytes that the end stands for. Assumes nothing.
use Rattle.std.proofs.Common.{◌≡◌, ◌⊎◌, ℕ, Bool, true, List, [], Option, Some, None, Result, Ok, Err, refl, sym, ap, subst, ◌∙◌, inl, inr}
use Rattle.std.specs.Prelude.{◌==◌, is_none, IfOk, IfErr, MatchOption, MatchResult}
use Rattle.std.specs.Option.{option_or, unwrap_or}
use Rattle.half_frame.specs.declared.side.Side.{Side}
use Rattle.half_frame.specs.declared.side.Side.TheVariants as side
use Rattle.c_lines.specs.Sides.{side_of}
use Rattle.c_lines.proofs.Arriving.{new-stands}
use Rattle.duplex_end.proofs.Arriving as duplex
use Rattle.half_master.proofs.EarLemmas as master
use Rattle.half_slave.proofs.Arriving as slave
use Rattle.station_router.specs.Router.{new_router}
use Rattle.c_ends.specs.declared.code.Code.{Code}
use Rattle.c_ends.specs.declared.code.Code.TheVariants as code
use Rattle.c_ends.specs.declared.held.Held.{Held}
use Rattle.c_ends.specs.declared.parts.DuplexLink.{DuplexLink}
use Rattle.c_ends.specs.declared.parts.MasterLink.{MasterLink}
use Rattle.c_ends.specs.declared.parts.SlaveLink.{SlaveLink}
use Rattle.c_ends.specs.declared.parts.NodeParts.{NodeParts}
use Rattle.c_ends.specs.declared.parts.FileParts.{FileParts}
use Rattle.c_ends.specs.declared.parts.WordParts.{WordParts}
use Rattle.c_ends.specs.Code.{code_number}
use Rattle.c_ends.specs.Links.{carried_by, check_of, duplex_fault, first_duplex, duplex_setup, master_fault, first_master, master_setup, slave_fault, first_slave, slave_setup}
use Rattle.c_ends.specs.Parts.{first_node}
use Rattle.df1_c.specs.Arrived.{IsDecoderFor, IsEndFor}
use Rattle.df1_c.specs.Decoders.{new_decoder, side_decoder, side_fault}
use Rattle.df1_c.specs.Held.{IsMake, taken_fault}
use Rattle.df1_c.proofs.Faults.{NeverDone, first-or, duplex-never, master-never, side-never, slave-never, taken-never}

pub none_of : (o : Option Held) → is_none o ≡ true → o ≡ None
none_of None e = refl
none_of (Some held) e = cc

-- the handle after it was filled by what was made
abbrev pub Filled : Result Held Code → Code → Option Held → Type 0
Filled made answer new = MatchResult made
    (λ held. ((answer ≡ code.Done) × (new ≡ Some held)) ⊎ ((answer ≡ code.NoMemory) × (new ≡ None)))
    (λ fault. (answer ≡ fault) × (new ≡ None))

-- what was made, or why nothing was
abbrev pub Refused : Option Code → Result Held Code → Type 0
Refused fault made = MatchOption fault (IfErr made (λ answer. answer ≡ code.NoMemory)) (λ why. made ≡ Err why)

filled : (first held : Held) (answer : Code) (new : Option Held) → held ≡ first
    → ((answer ≡ code.Done) × (new ≡ Some held)) ⊎ ((answer ≡ code.NoMemory) × (new ≡ None))
    → IsMake None first (code_number answer) None new
filled first held answer new same (inl done) = inl (ap code_number done.0, done.1 ∙ ap (λ h. Some h) same)
filled first held answer new same (inr none) = inr (ap code_number none.0, none.1)

made_empty : (fault : Option Code) (first : Held) (made : Result Held Code) (answer : Code) (new : Option Held)
    → IfOk made (λ held. held ≡ first) → Refused fault made → Filled made answer new
    → IsMake fault first (code_number answer) None new
made_empty None first (Ok held) answer new same why is = filled first held answer new same is
made_empty None first (Err other) answer new same why is = inr (ap code_number (is.0 ∙ why), is.1)
made_empty (Some fault) first (Ok held) answer new same why is = cc
made_empty (Some fault) first (Err other) answer new same why is =
    let e : other ≡ fault = cc in (ap code_number (is.0 ∙ e), is.1)

pub made_end : (fault : Option Code) (first : Held) (made : Result Held Code) (answer : Code) (number : ℕ) (old new : Option Held)
    → old ≡ None → IfOk made (λ held. held ≡ first) → Refused fault made → Filled made answer new → number ≡ code_number answer
    → IsMake (option_or (taken_fault old) fault) first number old new
made_end fault first made answer number old new empty same why is told =
    subst (λ (n : ℕ). IsMake (option_or (taken_fault old) fault) first n old new) (sym told)
    (subst (λ (o : Option Held). IsMake (option_or (taken_fault o) fault) first (code_number answer) o new) (sym empty)
    (made_empty fault first made answer new same why is))

-- ---- the bytes that it stands for

-- what is told as done was made
done-made : (fault : Option Code) (first : Held) (number : ℕ) (old new : Option Held)
    → NeverDone fault → IsMake fault first number old new → number ≡ code_number code.Done → new ≡ Some first
done-made None first number old new never (inl done) is = done.1
done-made None first number old new never (inr none) is = cc
done-made (Some fault) first number old new never refused is =
    let told : code_number fault ≡ 0 = sym refused.0 ∙ is in
    cc (ap (λ (n : ℕ). n == 0) told, never)

decoder-made : (fault : Option Code) (line_side : Side) (crc : Bool) (number : ℕ) (old new : Option Held) → NeverDone fault → IsMake fault (new_decoder line_side crc) number old new
    → number ≡ code_number code.Done → IsDecoderFor line_side (check_of crc) [] new
decoder-made fault line_side crc number old new never make is =
    let made = done-made fault (new_decoder line_side crc) number old new never make is in
    subst (λ (o : Option Held). IsDecoderFor line_side (check_of crc) [] o) (sym made) (new-stands line_side (check_of crc))

pub decoder-stands : (crc : Bool) (number : ℕ) (old new : Option Held) → IsMake (taken_fault old) (new_decoder side.Full crc) number old new
    → number ≡ code_number code.Done → IsDecoderFor side.Full (check_of crc) [] new
decoder-stands crc number old new make is = decoder-made (taken_fault old) side.Full crc number old new (taken-never old) make is

pub side-stands : (told : ℕ) (crc : Bool) (number : ℕ) (old new : Option Held) → IsMake (option_or (taken_fault old) (side_fault told)) (side_decoder told crc) number old new
    → (line_side : Side) → side_of told ≡ Some line_side → number ≡ code_number code.Done → IsDecoderFor line_side (check_of crc) [] new
side-stands told crc number old new make line_side known is =
    let never = first-or (taken_fault old) (side_fault told) (taken-never old) (side-never told) in
    subst (λ (s : Side). IsDecoderFor s (check_of crc) [] new) (ap (λ (o : Option Side). unwrap_or o side.Full) known)
    (decoder-made (option_or (taken_fault old) (side_fault told)) (unwrap_or (side_of told) side.Full) crc number old new never make is)

pub duplex-stands : (link : DuplexLink) (node : NodeParts) (files : List FileParts) (words : List WordParts) (block : List ℕ) (number : ℕ) (old new : Option Held)
    → IsMake (option_or (taken_fault old) (duplex_fault link node files words block)) (first_duplex link node files words block) number old new
    → number ≡ code_number code.Done → IsEndFor (check_of link.crc) [] new
duplex-stands link node files words block number old new make is =
    let fault = duplex_fault link node files words block in
    let made = done-made (option_or (taken_fault old) fault) (first_duplex link node files words block) number old new (first-or (taken_fault old) fault (taken-never old) (duplex-never link node files words block)) make is in
    subst (λ (o : Option Held). IsEndFor (check_of link.crc) [] o) (sym made) (duplex.stands-new (duplex_setup link) (first_node node files words block))

pub master-stands : (link : MasterLink) (stations : List ℕ) (node : NodeParts) (files : List FileParts) (words : List WordParts) (block : List ℕ) (number : ℕ) (old new : Option Held)
    → IsMake (option_or (taken_fault old) (master_fault link stations node files words block)) (first_master link stations node files words block) number old new
    → number ≡ code_number code.Done → IsEndFor (check_of link.crc) [] new
master-stands link stations node files words block number old new make is =
    let fault = master_fault link stations node files words block in
    let made = done-made (option_or (taken_fault old) fault) (first_master link stations node files words block) number old new (first-or (taken_fault old) fault (taken-never old) (master-never link stations node files words block)) make is in
    subst (λ (o : Option Held). IsEndFor (check_of link.crc) [] o) (sym made) (master.stands-new (master_setup link) stations (new_router (carried_by link stations) (first_node node files words block)))

pub slave-stands : (link : SlaveLink) (node : NodeParts) (files : List FileParts) (words : List WordParts) (block : List ℕ) (number : ℕ) (old new : Option Held)
    → IsMake (option_or (taken_fault old) (slave_fault link node files words block)) (first_slave link node files words block) number old new
    → number ≡ code_number code.Done → IsEndFor (check_of link.crc) [] new
slave-stands link node files words block number old new make is =
    let fault = slave_fault link node files words block in
    let made = done-made (option_or (taken_fault old) fault) (first_slave link node files words block) number old new (first-or (taken_fault old) fault (taken-never old) (slave-never link node files words block)) make is in
    subst (λ (o : Option Held). IsEndFor (check_of link.crc) [] o) (sym made) (slave.stands-new (slave_setup link node) (first_node node files words block))
