use Rattle.std.proofs.Common.{◌≡◌, false}
use Rattle.net_host.proofs.Changes.{changes_at}
use Rattle.net_host.proofs.Heard.{touches_where}
use Rattle.net_host.proofs.messages.copy_at.Goals as goal

pub returns-clause-copied : goal.returns-clause-copied
returns-clause-copied g c = changes_at _ _ _ _ _ c.requires c.index_mut.ensures.value c.copy_message-took.ensures.copied

pub returns-clause-touched : goal.returns-clause-touched
returns-clause-touched g c = touches_where c.copy_message-took.result _ _ _ _ c.args.i c.touch_if.ensures.touched (changes_at (λ b a. c.copy_message-took.result ≡ false → a ≡ b) _ _ _ _ c.requires c.index_mut.ensures.value c.copy_message-took.ensures.same)
