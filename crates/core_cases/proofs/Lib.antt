mod Allowed
