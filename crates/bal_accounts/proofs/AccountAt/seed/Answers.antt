-- `bal_accounts::AccountAt::seed` meets its contract. Assumes nothing.
use mathlib.Core.Path.{sym, ap, ◌∙◌}
use Rattle.bal_plan.specs.Plan.{admits_from}
use Rattle.bal_plan.specs.Lent.{lent_plan}
use Rattle.bal_accounts.proofs.AccountAt.seed.Goals as goal

pub admit-requires : goal.admit-requires
admit-requires c =
    record {
      admitted = sym (c.admits.ensures ∙ ap (admits_from (lent_plan c.args.plan).addresses) c.read_address-address.ensures) ∙ c.if-admits.true;
      room = c.requires;
    }

pub returns-else-admits : goal.returns-else-admits
returns-else-admits c =
    c.filter.ensures c.args.plan c.args.reads_out.now (sym (c.admits.ensures ∙ ap (admits_from (lent_plan c.args.plan).addresses) c.read_address-address.ensures) ∙ c.if-admits.false)
