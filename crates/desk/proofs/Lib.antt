mod Errands
