use Rattle.ble_cluster.proofs.Prelude.{◌≡◌, ◌++◌, ap, ◌∙◌, GrowingCluster, NetsAmong, with_net}
use Rattle.ble_cluster.proofs.GrowingLemmas.{drives_has, told_more}
use Rattle.ble_cluster.proofs.growing_cluster.GrowingCluster.drive.Goals as goal

pub returns-clause-told : goal.returns-clause-told
returns-clause-told c =
    let same = c.enter.ensures.same in
    let before = ap (λ (growth : GrowingCluster). growth.drives.nets) same in
    let own : c.insert.new.self.nets ≡ with_net c.args.self.now.drives.nets c.args.net = ap (λ (set : NetsAmong). set.nets) c.in_ok-insert.ensures.inserted ∙ ap (λ nets. with_net nets c.args.net) before in
    let others : c.enter.new.self.reads.nets ≡ c.args.self.now.reads.nets = ap (λ (growth : GrowingCluster). growth.reads.nets) same in
    rw (own, others) (told_more c.args.elements.now.elements c.args.self.now.reads.nets c.args.self.now.drives.nets (c.args.self.now.reads.nets ++ with_net c.args.self.now.drives.nets c.args.net) c.args.net _ _
    c.requires.room.gains c.requires.told c.in_ok-enter.ensures.entered (drives_has c.args.self.now.reads.nets c.args.self.now.drives.nets c.args.net))
