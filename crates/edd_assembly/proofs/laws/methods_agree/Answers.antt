use Rattle.edd_assembly.proofs.MethodsAgree.{all_methods_agree}
use Rattle.edd_assembly.proofs.laws.methods_agree.Goals as goal

pub returns : goal.returns
returns c unit lowered words checked units methods sections = all_methods_agree unit lowered words
    checked units methods sections
