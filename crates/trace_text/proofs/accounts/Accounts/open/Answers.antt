use Rattle.std.proofs.Common.{◌≡◌, ◌++◌, ◌∷◌, [], true, None, length, rules}
use Rattle.trace_text.proofs.ByName.{ArePlaced-opened}
use Rattle.trace_text.specs.Fields.{is_name}
use Rattle.trace_text.specs.Trace.{place_of}
use Rattle.trace_text.proofs.accounts.Accounts.open.Goals as goal

pub invariant_of-self-in-Ok : goal.invariant_of-self-in-Ok
invariant_of-self-in-Ok c =
    let items : c.push.new.self.items ≡ c.self.inside.items.items ++ c.in_ok-account.account ∷ [] = search rules in
    let copied : c.in_ok-key.key.items ≡ c.in_ok-account.account.tenant.name = search rules in
    let named : is_name c.in_ok-account.account.tenant.name ≡ true = rw (← copied, c.in_ok-key.ensures.items) c.requires.named in
    let fresh : place_of c.in_ok-account.account.tenant.name c.self.inside.items.items ≡ None = rw (← copied, c.in_ok-key.ensures.items, c.self.view_is) c.requires.fresh in
    let last : c.len-place.result ≡ length c.self.inside.items.items = search rules in
    rw items (ArePlaced-opened c.self.inside.items.items c.in_ok-account.account c.in_ok-key.key c.len-place.result c.self.inside.places c.insert.new.self copied last named fresh c.in-Ok.ensures.updates c.self.invariant)
