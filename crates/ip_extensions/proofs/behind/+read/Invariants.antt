use Rattle.ip_extensions.proofs.behind.+read.Given as goal

abbrev pub decreases-read : goal.decreases-read
decreases-read l = l.most
