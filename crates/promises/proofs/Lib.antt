mod Exiting
