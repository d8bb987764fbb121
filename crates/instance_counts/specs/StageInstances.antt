-- N3 and N2 of a row as the code finds them: in the bytes of past and events and in the tables of groups and masks.
use Rattle.std.specs.Prelude.{ℕ, ◌+◌, Bool, cond, ◌&&◌, List, ltb, eqb, get_or}
use Rattle.binary.specs.Bounded.{count_to}
use Rattle.tariff.specs.SanctionRules.{period_counts}
use Rattle.casefile.specs.declared.layout.Format.{Format}
use Rattle.casefile.specs.Decode.{past_in, events_in}
use Rattle.instance_counts.specs.declared.instances.Instances.{Instances}

-- impact 1 and a flagged hour
unfoldable pub with_impact : Format → (events masks : List ℕ) (i : ℕ) → Bool
with_impact format events masks i = eqb ((events_in format events).impact i) 1 && ltb 0 (get_or masks i 0)

-- event j is an instance
unfoldable pub instance_at : Format → (events masks : List ℕ) (j : ℕ) → Bool
instance_at format events masks j = eqb ((events_in format events).kind j) 1 && with_impact format events masks j

-- and of this group and market
unfoldable pub instance_of : Format → (events groups masks : List ℕ) (group market j : ℕ) → Bool
instance_of format events groups masks group market j =
    instance_at format events masks j && eqb (get_or groups j 0) group && eqb ((events_in format events).market j) market

-- and its period is the own one or one of the k before
unfoldable pub row_counts : Format → (events groups masks : List ℕ) (group market period k j : ℕ) → Bool
row_counts format events groups masks group market period k j =
    instance_of format events groups masks group market j && period_counts k period ((events_in format events).period j)

-- past entry j is of kind 1, and of this group and market
unfoldable pub entry_of : (past : List ℕ) (group market j : ℕ) → Bool
entry_of past group market j =
    eqb ((past_in past).entry j).kind 1 && eqb ((past_in past).entry j).group group && eqb ((past_in past).entry j).market market

unfoldable pub entry_counts : (past : List ℕ) (group market period k j : ℕ) → Bool
entry_counts past group market period k j =
    entry_of past group market j && period_counts k period ((past_in past).entry j).period

-- the instances on the first i rows
unfoldable pub instances_here : Format → (events groups masks : List ℕ) (group market period i : ℕ) → Instances
instances_here format events groups masks group market period i =
    record {
      n3 = count_to i (row_counts format events groups masks group market period 2);
      n2 = count_to i (row_counts format events groups masks group market period 1);
    }

-- the past entries
unfoldable pub instances_past : (past : List ℕ) (group market period : ℕ) → Instances
instances_past past group market period =
    record {
      n3 = count_to (past_in past).count (entry_counts past group market period 2);
      n2 = count_to (past_in past).count (entry_counts past group market period 1);
    }

-- N3 and N2 of row i: 1 plus both where it is an instance, else 0
unfoldable pub instances_at : Format → (past events groups masks : List ℕ) (i : ℕ) → Instances
instances_at format past events groups masks i =
    cond (instance_at format events masks i)
    (one_plus (instances_here format events groups masks (get_or groups i 0) ((events_in format events).market i) ((events_in format events).period i) i)
    (instances_past past (get_or groups i 0) ((events_in format events).market i) ((events_in format events).period i)))
    (record { n3 = 0; n2 = 0 })
  where
    one_plus : Instances → Instances → Instances
    one_plus here outside = record { n3 = 1 + here.n3 + outside.n3; n2 = 1 + here.n2 + outside.n2 }
