-- Of a rule the names are the rule's (`rule-recorded`), and a record that means none has no names. Assumes nothing.
use mathlib.Core.Path.{sym, ap, ◌∙◌}
use Rattle.reach_order.specs.Named.{names_of}
use Rattle.reach_order.proofs.Finding.{rule-read, rule-none}
use Rattle.reach_order.proofs.names_at.Goals as goal

pub returns-in_err-rule : goal.returns-in_err-rule
unfolding names_of
returns-in_err-rule c =
    c.from_residual.ensures ∙ sym (ap names_of (rule-none c.args.rules c.args.i c.requires c.record.ensures c.decode.ensures c.in_err-rule.was))

pub returns : goal.returns
returns c = c.named_by.ensures ∙ ap names_of (rule-read c.args.rules c.args.i c.requires c.record.ensures c.decode.ensures c.in_ok-rule.was)
