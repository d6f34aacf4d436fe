-- A byte as the code takes it, part by part.
use Rattle.std.proofs.Common.{◌≡◌, ℕ, List, Option, refl}
use Rattle.df1_base.specs.declared.host.Host.{Ghosts}
use Rattle.df1_base.specs.HostAnswers.{host_told, news_of}
use Rattle.half_frame.specs.declared.heard.MasterHeard.{MasterHeard}
use Rattle.half_frame.specs.MasterStanding.{Listening, lent_at}
use Rattle.half_frame.specs.MasterStep.{next}
use Rattle.half_master.specs.declared.table.Effect.{Effect}
use Rattle.half_master.specs.Master.{MasterState, effect_heard, performed, fate_of, host_accepted, did_at, act_of, is_good, master_after_byte, step_at_byte}

-- the parts: the ear and what is heard, the effect, the body, and the host after it took a message and was told a fate
pub record Parts {H : Type 0} (m : Ghosts H) (e : MasterState H) (b : ℕ) (ear : Listening) (what : Option MasterHeard) (effect : Effect) (body : List ℕ) (took told : H) : Type 0 where
  pub ear_is : ear ≡ (next 250 e.ear b).0
  pub what_is : what ≡ (next 250 e.ear b).1
  pub effect_is : effect ≡ effect_heard m (record e { ear = ear }) what
  pub body_is : body ≡ lent_at ear.standing
  pub took_is : took ≡ host_accepted m effect e.host body
  pub told_is : told ≡ host_told m (fate_of effect) took

pub after-byte : {H : Type 0} (m : Ghosts H) (e : MasterState H) (b : ℕ) (ear : Listening) (what : Option MasterHeard) (effect : Effect) (body : List ℕ) (took told : H) → Parts m e b ear what effect body took told
    → performed (record e { ear = ear; host = told }) effect ≡ master_after_byte m e b
after-byte m e b ear what effect body took told p = rw (p.told_is, p.took_is, p.body_is, p.effect_is, p.what_is, p.ear_is) refl

pub step-byte : {H : Type 0} (m : Ghosts H) (e : MasterState H) (b : ℕ) (ear : Listening) (what : Option MasterHeard) (effect : Effect) (body : List ℕ) (took told : H) → Parts m e b ear what effect body took told
    → (record { act = act_of effect what; did = did_at m effect e.host body; news = news_of m (fate_of effect) took; whole = is_good what; station = 0 }) ≡ step_at_byte m e b
step-byte m e b ear what effect body took told p = rw (p.took_is, p.body_is, p.effect_is, p.what_is, p.ear_is) refl
