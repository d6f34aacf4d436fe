-- Which lines of an act tell of no message that an end accepts.
use Rattle.std.proofs.Common.{◌≡◌, ℕ, false, List, Some, refl, inl, inr}
use Rattle.std.specs.Prelude.{◌⊎◌}
use Rattle.df1_base.specs.declared.host.Did.{Did}
use Rattle.df1_base.specs.declared.host.Did.TheVariants as did
use Rattle.df1_base.specs.declared.link.Act.{Act}
use Rattle.df1_base.specs.declared.link.Act.TheVariants as act
use Rattle.df1_node.specs.Node.{NodeState}
use Rattle.duplex_sender.specs.Sender.{SenderState}
use Rattle.script_statement.specs.declared.who.Who.{Who}
use Rattle.replay_report.specs.declared.record.Line.{Line}
use Rattle.report_lines.specs.NodeLines.{did_lines}
use Rattle.each_once.specs.NodeHost.{node_host}
use Rattle.each_once.specs.Tells.{is_who}
use Rattle.each_once.proofs.ToldLines.{AreSilent, silent-none}
use Rattle.duplex_line.proofs.Once.ArrivingCell.{told_at, append-none, news-silent}

-- lines that tell of no command that an end executed, and of no reply that it accepted
abbrev pub TellNothing : Who → List Line → Type 0
TellNothing who lines = AreSilent who who lines

-- the act accepts a message, or its lines tell of none
pub accepts-or-nothing : (who : Who) (what : Act) (sender : SenderState) (host : NodeState) (body : List ℕ) → TellNothing who (told_at who what sender host body) ⊎ (what ≡ act.Accept)
accepts-or-nothing who act.Accept sender host body = inr refl
accepts-or-nothing who act.Repeat sender host body = inl (record { executes = refl; answers = refl; strays = refl })
accepts-or-nothing who act.Refuse sender host body = inl (record { executes = refl; answers = refl; strays = refl })
accepts-or-nothing who act.Damaged sender host body = inl (record { executes = refl; answers = refl; strays = refl })
accepts-or-nothing who act.Forgot sender host body = inl (silent-none who who)
accepts-or-nothing who act.PeerAck sender host body = inl (news-silent who who who _)
accepts-or-nothing who act.PeerNak sender host body = inl (news-silent who who who _)
accepts-or-nothing who act.PeerEnq sender host body = inl (silent-none who who)
accepts-or-nothing who act.Nothing sender host body = inl (silent-none who who)

did-other : (who by : Who) → is_who who by ≡ false → (what : Did) (body : List ℕ) → TellNothing who (did_lines by (Some what) body)
did-other who by apart did.Executed body = record { executes = rw apart refl; answers = refl; strays = refl }
did-other who by apart (did.Answered n) body = record { executes = refl; answers = rw apart refl; strays = refl }
did-other who by apart did.Stray body = record { executes = refl; answers = refl; strays = rw apart refl }

-- the lines of an act of another end tell of none
pub other-nothing : (who by : Who) → is_who who by ≡ false → (what : Act) (sender : SenderState) (host : NodeState) (body : List ℕ) → TellNothing who (told_at by what sender host body)
other-nothing who by apart act.Accept sender host body = rw (append-none by (Some (node_host.did host body)) body) (did-other who by apart (node_host.did host body) body)
other-nothing who by apart act.Repeat sender host body = record { executes = refl; answers = refl; strays = refl }
other-nothing who by apart act.Refuse sender host body = record { executes = refl; answers = refl; strays = refl }
other-nothing who by apart act.Damaged sender host body = record { executes = refl; answers = refl; strays = refl }
other-nothing who by apart act.Forgot sender host body = silent-none who who
other-nothing who by apart act.PeerAck sender host body = news-silent who who by _
other-nothing who by apart act.PeerNak sender host body = news-silent who who by _
other-nothing who by apart act.PeerEnq sender host body = silent-none who who
other-nothing who by apart act.Nothing sender host body = silent-none who who
